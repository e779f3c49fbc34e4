use Rattle.std.proofs.Common.{List, ℕ, Option, Some, ◌≡◌, ◌∙◌, sym, ap}
use Rattle.std.specs.Option.{option_copied}
use Rattle.sip_lex.specs.Cut.{cut, is}
use Rattle.proxy_config.proofs.laws.TextLines.{behind_one}
use Rattle.proxy_config.proofs.text_lines.behind_lines.Goals as goal

pub loop-left-preserved : goal.loop-left-preserved
loop-left-preserved c =
    let line = c.cut_at.result.0.now in
    let after = c.in_default-Some.after.now in
    let e : (line, Some after) ≡ cut (is 10) c.loop-left.rest.now = ap (λ (more : Option (List ℕ)). (line, more)) (sym (ap option_copied c.in_default-Some.is-1)) ∙ c.cut_at.ensures.value in
    behind_one c.loop-left.left c.loop-left.rest.now line after c.loop-left-test.true e ∙ c.loop-left.invariant

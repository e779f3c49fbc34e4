use Rattle.std.proofs.Common.{◌≡◌, ◌∙◌, Bor, List, ℕ, None, Option, Some, ap, arith, drop, false, refl, sym}
use Rattle.std.proofs.lemmas.Grind.{common_steps}
use Rattle.std.proofs.lemmas.Bool.{OnTrue_from}
use Rattle.std.specs.Option.{is_some, option_copied}
use Rattle.sip_lex.specs.Cut.{cut, is}
use Rattle.sip_uri.specs.Reading.{read_uri}
use Rattle.proxy_config.specs.Setup as spec
use Rattle.proxy_dispatch.specs.Asking.{is_proxy_if_read}
use Rattle.proxy_dispatch.proofs.Users.{with_a_user}
use Rattle.proxy_dispatch.proofs.asking.names_user.Goals as goal

pub returns-in-Some : goal.returns-in-Some
returns-in-Some c =
    let body : c.in-Some.body.now ≡ drop 4 c.args.text.now = grind (arith, common_steps) in
    let found : is_some c.cut_at.result.1 ≡ is_some (cut (is 64) c.in-Some.body.now).1 = grind (arith, common_steps) in
    let behind : is_some (cut (is 64) c.in-Some.body.now).1 ≡ is_some (cut (is 64) (drop 4 c.args.text.now)).1 = ap (λ text. is_some (cut (is 64) text).1) body in
    OnTrue_from c.is_some.result ((setup : spec.Setup) → is_proxy_if_read setup (read_uri c.args.text.now) ≡ false)
    (λ named. λ setup. with_a_user setup c.args.text.now (sym behind ∙ sym found ∙ sym c.is_some.ensures ∙ named))

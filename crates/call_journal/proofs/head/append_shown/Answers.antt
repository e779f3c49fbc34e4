use Rattle.std.proofs.Common.{ℕ, List, ◌++◌, map, ap, ◌∙◌}
use Rattle.call_journal.specs.Head.{shown_byte}
use Rattle.call_journal.proofs.head.append_shown.Goals as goal

pub returns : goal.returns
returns g c = c.in_ok-append_bytes.ensures ∙ ap (λ (t : List ℕ). c.args.out.now.items ++ map shown_byte t) c.front_of.ensures

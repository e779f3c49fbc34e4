use Rattle.std.proofs.Common.{◌≡◌, take}
use Rattle.sip_text.specs.Seen.{view_lines}
use Rattle.authentication.proofs.answer.OwnAnswer.further_lines.Given as goal

abbrev pub invariant-loop-line : goal.invariant-loop-line
invariant-loop-line g l = view_lines l.further.items ≡ take l.line-index l.line-items

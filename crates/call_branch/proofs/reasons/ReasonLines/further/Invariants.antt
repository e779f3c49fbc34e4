use Rattle.std.proofs.Common.{◌≡◌, take}
use Rattle.sip_text.specs.Seen.{view_lines}
use Rattle.call_branch.proofs.reasons.ReasonLines.further.Given as goal

abbrev pub invariant-loop-line : goal.invariant-loop-line
invariant-loop-line g l = view_lines l.made.items ≡ take l.line-index l.line-items

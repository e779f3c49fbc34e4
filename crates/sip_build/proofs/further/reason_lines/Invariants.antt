use Rattle.sip_build.proofs.Common.{◌≡◌, ◌++◌, length, codes, view_lines, views, lines_among}
use Rattle.sip_build.specs.Requests.{reason_lines}
use Rattle.sip_build.proofs.further.reason_lines.Given as goal

abbrev pub invariant-loop-line : goal.invariant-loop-line
invariant-loop-line g l = view_lines l.lines.items ++ lines_among (codes "reason") (views l.rest) ≡ reason_lines l.message

abbrev pub decreases-loop-line : goal.decreases-loop-line
decreases-loop-line g l = length (views l.rest)

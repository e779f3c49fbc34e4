use Rattle.std.proofs.Common.{◌≡◌}
use Rattle.proxy_config.specs.TextLine.{behind_lines}
use Rattle.proxy_config.proofs.text_lines.behind_lines.Given as goal

-- what stands behind the lines that are left is what stands behind all of them
abbrev pub invariant-loop-left : goal.invariant-loop-left
invariant-loop-left l = behind_lines l.left l.rest ≡ behind_lines l.count l.text

abbrev pub decreases-loop-left : goal.decreases-loop-left
decreases-loop-left l = l.left

use Rattle.std.proofs.Common.{◌≤◌, length}
use Rattle.service_files.proofs.OwnLines.{Reached}
use Rattle.service_files.proofs.own_line.silent_len.Given as goal

-- no line before this place says anything
abbrev pub invariant-loop-at : goal.invariant-loop-at
invariant-loop-at l = Reached l.within l.text l.at

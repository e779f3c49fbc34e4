use Rattle.sip_build.proofs.Common.{◌≡◌, ◌+◌, ◌≤◌, take}
use Rattle.sip_build.proofs.runs.append_blank.Given as goal

abbrev pub invariant-loop-left : goal.invariant-loop-left
invariant-loop-left g l = record {
  len : l.out.len + l.left ≡ l.fn.out.len + l.len;
  begins : take l.fn.out.len l.out.items ≡ l.fn.out.items;
  room : l.out.len + l.left ≤ l.out.cap;
}

abbrev pub decreases-loop-left : goal.decreases-loop-left
decreases-loop-left g l = l.left

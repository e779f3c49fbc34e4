use Rattle.sip_digest.proofs.UsersCommon.{length}
use Rattle.sip_digest.specs.inner.SoFar.{IsSoFar}
use Rattle.sip_digest.proofs.users.UserList.read_all.Given as goal

abbrev pub invariant-loop-after : goal.invariant-loop-after
invariant-loop-after g l = IsSoFar l.algorithms l.text l.list l.number l.rest

abbrev pub decreases-loop-after : goal.decreases-loop-after
decreases-loop-after g l = length l.rest

-- A thread may be given a group of calls of what a thread may be given, and what a lock holds threads may share.
use denote.RattleType.{RattleType}
use denote.Param.Send.{Frees, IsSend}
use Rattle.std.specs.declared.alloc.Allocator as allocator
use Rattle.proxy_threads.proofs.group.CallGroup.TheSendSync as made
use Rattle.proxy_threads.specs.contracts.group.CallGroup as group

pub group_send : (T A : RattleType) (g : allocator.Ghosts A.Denot) → IsSend T → IsSend A → Frees g g.dealloc_token → IsSend (group.the_row T A g)
group_send T A g = made.the_send T A g

use denote.Param.Send.{sendable}
use Rattle.service_threads.proofs.Sharing.{sockets_sync}
use Rattle.service_threads.proofs.crew.sockets_are_shared.Goals as goal

pub is_shared-requires-sync-T : goal.is_shared-requires-sync-T
is_shared-requires-sync-T c κs = search (sockets_sync, sendable)

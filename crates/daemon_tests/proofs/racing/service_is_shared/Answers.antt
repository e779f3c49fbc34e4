-- Threads may share a service.
use denote.Struct.Declared.{shape}
use denote.Param.Send.{IsSync, recorded_sync, sendable, struct_sync}
use Rattle.proxy_service.proofs.laws.Crossing.{service_sync}
use Rattle.daemon_tests.specs.contracts.racing.Shared as shared
use Rattle.daemon_tests.proofs.racing.service_is_shared.Goals as goal

shared_sync : IsSync shared.the_row
shared_sync = recorded_sync shared.the_field.row _ _ (shared.the_type).to_one (struct_sync (shape shared.the_type) (search service_sync, tt))

pub is_shared-requires-sync-T : goal.is_shared-requires-sync-T
is_shared-requires-sync-T c κs = search (shared_sync, sendable)

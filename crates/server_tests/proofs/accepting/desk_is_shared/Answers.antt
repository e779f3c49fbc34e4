-- Threads may share the calls of a test: that a thread may be given a call is shown with the server.
use denote.Struct.Declared.{shape}
use denote.Param.Send.{IsSync, recorded_sync, sendable, struct_sync}
use Rattle.std.proofs.Crossing.{frees, send, sync}
use Rattle.call_table.proofs.laws.Crossing.{shelf_sync}
use Rattle.proxy_config.proofs.laws.Crossing.{setup_sync}
use Rattle.fork_call.proofs.laws.Crossing.{call_send}
use Rattle.server_tests.specs.contracts.accepting.Desk as desk
use Rattle.server_tests.proofs.accepting.desk_is_shared.Goals as goal

desk_sync : IsSync desk.the_row
desk_sync =
    recorded_sync desk.the_field.row _ _ (desk.the_type).to_one
    (struct_sync (shape desk.the_type) (search sendable, (search (shelf_sync, call_send, send, sync, frees), (search (setup_sync, sync), tt))))

pub is_shared-requires-sync-T : goal.is_shared-requires-sync-T
is_shared-requires-sync-T c κs = search (desk_sync, sendable)

-- Threads may share a server.
use denote.Struct.Declared.{shape}
use denote.Param.Send.{IsSync, recorded_sync, struct_sync}
use Rattle.std.proofs.Crossing.{frees, send, sync}
use Rattle.std.specs.declared.clone.Clone as clone
use Rattle.std.specs.contracts.alloc.Global.{the_row as heap_row}
use Rattle.std.specs.contracts.impls.GlobalAllocator.TheImpl.{ghosts}
use Rattle.fork_call.proofs.laws.Crossing.{call_send}
use Rattle.fork_call.specs.contracts.call.Call.{the_row as call_row}
use Rattle.call_table.proofs.laws.Crossing.{shelf_sync}
use Rattle.call_table.proofs.laws.Crossing.{schedule_sync}
use Rattle.proxy_config.proofs.laws.Crossing.{setup_sync}
use Rattle.serve_command.proofs.dropped.Dropped.TheSendSync as dropped
use Rattle.sockets.proofs.laws.Crossing.{socket_sync}
use Rattle.serve_command.specs.contracts.worker.TurnProxy as proxy
use Rattle.serve_command.specs.contracts.serving.TurnServer as server

proxy_sync : (h : clone.Ghosts heap_row.Denot) → IsSync (proxy.the_field heap_row ghosts h).row
proxy_sync h = struct_sync (shape (proxy.the_type heap_row ghosts h))
    (sync, (setup_sync heap_row ghosts sync, (socket_sync, (shelf_sync (call_row heap_row ghosts h) heap_row ghosts (call_send h) send sync frees, (schedule_sync heap_row ghosts send frees, (dropped.the_field_sync, (dropped.the_field_sync, (dropped.the_field_sync, tt))))))))

pub server_sync : IsSync server.the_row
server_sync = recorded_sync server.the_field.row _ _ (server.the_type).to_one (struct_sync (shape server.the_type) (search proxy_sync, tt))

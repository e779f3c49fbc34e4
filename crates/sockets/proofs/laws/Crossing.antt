-- Threads may share the socket of a proxy.
use denote.Param.Send.{IsSync}
use Rattle.sockets.proofs.socket.Socket.TheSendSync as made_socket
use Rattle.sockets.specs.contracts.socket.Socket as socket

pub socket_sync : IsSync socket.the_field.row
socket_sync = made_socket.the_field_sync

-- The transactions of a call that those of the program stand for.
use Rattle.call_model.specs.Server as server
use Rattle.call_caller.specs.declared.served.ServerMachine.{ServerMachine}
use Rattle.call_caller.specs.declared.served.ServerMachine.TheVariants as server_machine

abbrev pub served_of : ServerMachine → server.ServerTransaction
served_of (server_machine.Invite m) = server.InviteServer m
served_of (server_machine.Other m) = server.OtherServer m

-- The transactions of a call that those of the program stand for.
use Rattle.call_model.specs.Client as client
use Rattle.call_branch.specs.declared.client.ClientMachine.{ClientMachine}
use Rattle.call_branch.specs.declared.client.ClientMachine.TheVariants as client_machine

abbrev pub client_of : ClientMachine → client.ClientTransaction
client_of (client_machine.Invite m) = client.InviteClient m
client_of (client_machine.Other m) = client.OtherClient m

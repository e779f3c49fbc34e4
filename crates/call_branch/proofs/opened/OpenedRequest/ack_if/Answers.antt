use Rattle.std.proofs.Common.{◌≡◌, ap, Some}
use Rattle.sip_txn.specs.declared.event.TxSend.TheVariants as send
use Rattle.call_branch.proofs.opened.OpenedRequest.ack_if.Goals as goal

pub returns-in_ok-ack_bytes-in-Ack : goal.returns-in_ok-ack_bytes-in-Ack
returns-in_ok-ack_bytes-in-Ack g c = let e : c.args.send ≡ send.Ack = c.in-Ack.is in rw e (ap Some c.in_ok-ack_bytes-in-Ack.ensures)

-- A datagram of a call could not be sent (RFC 3261 sections 16.9 and 17.1.4).
use Rattle.std.specs.Prelude.{◌≡◌, ℕ, Bool, true, false, [], Option, Some, None}
use Rattle.fork_model.specs.Event as fork
use Rattle.fork_model.specs.Reply.{Reply}
use Rattle.sip_txn.specs.declared.event.TxEvent.TheVariants as event
use Rattle.sip_txn.specs.declared.event.TxPass.{TxPass}
use Rattle.sip_txn.specs.declared.event.TxPass.TheVariants as pass
use Rattle.sip_txn.specs.Machine.{machine_after}
use Rattle.sip_txn.specs.OtherClient.{other_client}
use Rattle.call_model.specs.declared.cause.Cause.{Cause}
use Rattle.call_model.specs.declared.cause.Cause.TheVariants as cause
use Rattle.call_model.specs.Client.{client_after, client_out}
use Rattle.call_model.specs.Branch.{Branch, CancelTransaction}
use Rattle.call_model.specs.Call.{Call, nth_branch, set_branch}
use Rattle.call_model.specs.Take.{served_on}
use Rattle.call_model.specs.Posting.{Posts}

abbrev pub faulted : Branch → ℕ → Branch
faulted branch now = record branch { client = client_after event.TransportError now branch.client }

abbrev pub is_fault : TxPass → Bool
is_fault pass.Fault = true
is_fault _ = false

-- the branch ends by it where its transaction says so
abbrev pub FaultsBy : Call → ℕ → ℕ → Branch → (fault : Bool) → Call → Type 0
FaultsBy call now n branch true new = (reply : Reply) × Posts (set_branch call n (faulted branch now)) (fork.Fault n) [] None reply new
FaultsBy call now n branch false new = new ≡ set_branch call n (faulted branch now)

abbrev pub FaultsClient : Call → ℕ → ℕ → Option Branch → Call → Type 0
FaultsClient call now n None new = new ≡ call
FaultsClient call now n (Some branch) new = FaultsBy call now n branch (is_fault (client_out event.TransportError now branch.client).pass) new

abbrev pub faulted_cancel : Branch → ℕ → Option CancelTransaction → Branch
faulted_cancel branch now None = branch
faulted_cancel branch now (Some cancelling) =
    record branch { cancelling = Some (record cancelling { client = machine_after other_client event.TransportError now cancelling.client }) }

abbrev pub cancel_faulted : Call → ℕ → ℕ → Option Branch → Call
cancel_faulted call now n None = call
cancel_faulted call now n (Some branch) = set_branch call n (faulted_cancel branch now branch.cancelling)

-- the transaction of its cause is told; without one, as for the 200 to a CANCEL, nothing changes
abbrev pub Fails : Call → ℕ → Cause → Call → Type 0
Fails call now (cause.Request n) new = FaultsClient call now n (nth_branch call n) new
Fails call now (cause.Ack n) new = FaultsClient call now n (nth_branch call n) new
Fails call now (cause.Cancel n) new = new ≡ cancel_faulted call now n (nth_branch call n)
Fails call now cause.Answer new = new ≡ served_on call event.TransportError now
Fails call now cause.CancelOk new = new ≡ call

-- A transaction that is over stays as it is and says nothing: the caller's whatever it is fed, a branch's by responses and faults.
use Rattle.std.proofs.Common.{◌≡◌, ◌∙◌, ℕ, Bool, true, false, Option, None, ap, refl, nat_lt}
use Rattle.std.specs.Prelude.{if◌then◌else◌}
use Rattle.sip_txn.specs.declared.event.TxEvent.{TxEvent}
use Rattle.sip_txn.specs.declared.event.TxEvent.TheVariants as event
use Rattle.sip_txn.specs.declared.invite_client.InviteClientState.TheVariants as invite_client_at
use Rattle.sip_txn.specs.declared.invite_server.InviteServerState.TheVariants as invite_server_at
use Rattle.sip_txn.specs.declared.other_client.OtherClientState.TheVariants as other_client_at
use Rattle.sip_txn.specs.declared.other_server.OtherServerState.TheVariants as other_server_at
use Rattle.sip_txn.specs.declared.machine.Machine.{Machine}
use Rattle.sip_txn.specs.declared.machine.MachineRow.{MachineRow}
use Rattle.sip_txn.specs.declared.timers.Timers.{Timers}
use Rattle.sip_txn.specs.declared.other_client.OtherClientState.{OtherClientState}
use Rattle.sip_txn.specs.InviteClient.{invite_client}
use Rattle.sip_txn.specs.InviteServer.{invite_server}
use Rattle.sip_txn.specs.OtherClient.{other_client}
use Rattle.sip_txn.specs.OtherServer.{other_server}
use Rattle.sip_txn.specs.Machine.{Table, machine_after, out_of, row_machine, row_out, silent}
use Rattle.sip_txn.specs.Timers.{input_of}
use Rattle.call_model.specs.Client as client
use Rattle.call_model.specs.Client.{ClientTransaction, InviteClient, OtherClient, client_after, client_out}
use Rattle.call_model.specs.Server as server
use Rattle.call_model.specs.Take.{response_event}
use Rattle.call_model.specs.Server.{ServerTransaction, InviteServer, OtherServer, served_after, served_out}

-- a machine whose table has no row for what it is fed
stays : {S : Type 0} (table : Table S) (over : S) (ev : TxEvent) (now : ℕ) (m : Machine S) → m.state ≡ over → table over (input_of ev now m.timers) ≡ None
    → machine_after table ev now m ≡ m
stays {S} table over ev now m is none =
    ap (λ (s : S). row_machine (table s (input_of ev now m.timers)) now m) is
    ∙ ap (λ (r : Option (MachineRow S)). row_machine r now m) none

silently : {S : Type 0} (table : Table S) (over : S) (ev : TxEvent) (now : ℕ) (m : Machine S) → m.state ≡ over → table over (input_of ev now m.timers) ≡ None
    → out_of table ev now m ≡ silent
silently {S} table over ev now m is none =
    ap (λ (s : S). row_out (table s (input_of ev now m.timers))) is
    ∙ ap (λ (r : Option (MachineRow S)). row_out r) none

-- ---- the caller's

pub served_stays : (ev : TxEvent) (now : ℕ) (s : ServerTransaction) → server.is_over s → served_after ev now s ≡ s
served_stays ev now (InviteServer m) is = ap InviteServer (stays invite_server invite_server_at.Terminated ev now m is refl)
served_stays ev now (OtherServer m) is = ap OtherServer (stays other_server other_server_at.Terminated ev now m is refl)

pub served_silent : (ev : TxEvent) (now : ℕ) (s : ServerTransaction) → server.is_over s → served_out ev now s ≡ silent
served_silent ev now (InviteServer m) is = silently invite_server invite_server_at.Terminated ev now m is refl
served_silent ev now (OtherServer m) is = silently other_server other_server_at.Terminated ev now m is refl

-- ---- a branch's: it heeds no response and no fault

abbrev pub Unheeded : TxEvent → Type 0
Unheeded ev = (now : ℕ) (timers : Timers) →
    (invite_client invite_client_at.Terminated (input_of ev now timers) ≡ None)
    × (other_client other_client_at.Terminated (input_of ev now timers) ≡ None)

pub unheeded_fault : Unheeded event.TransportError
unheeded_fault now timers = (refl, refl)

pub unheeded_response : (status : ℕ) → Unheeded (response_event status)
unheeded_response status = by (nat_lt status 200) (nat_lt status 300)
  where
    by : (a b : Bool) → Unheeded (if a then event.Provisional else (if b then event.Success else event.Failure))
    by true b now timers = (refl, refl)
    by false true now timers = (refl, refl)
    by false false now timers = (refl, refl)

pub client_stays : (ev : TxEvent) → Unheeded ev → (now : ℕ) (c : ClientTransaction) → client.is_over c → client_after ev now c ≡ c
client_stays ev none now (InviteClient m) is = ap InviteClient (stays invite_client invite_client_at.Terminated ev now m is (none now m.timers).0)
client_stays ev none now (OtherClient m) is = ap OtherClient (stays other_client other_client_at.Terminated ev now m is (none now m.timers).1)

pub client_silent : (ev : TxEvent) → Unheeded ev → (now : ℕ) (c : ClientTransaction) → client.is_over c → client_out ev now c ≡ silent
client_silent ev none now (InviteClient m) is = silently invite_client invite_client_at.Terminated ev now m is (none now m.timers).0
client_silent ev none now (OtherClient m) is = silently other_client other_client_at.Terminated ev now m is (none now m.timers).1

pub cancel_stays : (ev : TxEvent) → Unheeded ev → (now : ℕ) (m : Machine OtherClientState) → m.state ≡ other_client_at.Terminated → machine_after other_client ev now m ≡ m
cancel_stays ev none now m is = stays other_client other_client_at.Terminated ev now m is (none now m.timers).1

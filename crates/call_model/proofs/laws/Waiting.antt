-- A transaction that waits for a final response has waited before, and it is such a one that times out or fails.
use Rattle.call_model.proofs.Common.{◌≡◌, ◌∙◌, ℕ, Bool, true, false, Option, Some, None, refl, ap, sym, subst, ◌&&◌, ◌||◌, not, and_parts, TxEvent, Machine, InviteClientState, OtherClientState, row_out, invite_client, other_client, ClientTransaction}
use Rattle.call_model.proofs.Common.{InviteClient, OtherClient, client_after, client_out, is_timeout, is_fault, awaits, invite_awaits, other_awaits}
use Rattle.sip_txn.specs.declared.event.TxEvent.TheVariants as event
use Rattle.sip_txn.specs.declared.event.TxPass.{TxPass}
use Rattle.sip_txn.specs.declared.timers.MachineInput.{MachineInput}
use Rattle.sip_txn.specs.declared.timers.MachineInput.TheVariants as input
use Rattle.sip_txn.specs.declared.machine.MachineRow.{MachineRow}
use Rattle.sip_txn.specs.declared.invite_client.InviteClientState.TheVariants as invite
use Rattle.sip_txn.specs.declared.other_client.OtherClientState.TheVariants as other
use Rattle.sip_txn.specs.Machine.{row_machine}
use Rattle.sip_txn.specs.Timers.{input_of}

-- the events by which a transaction waits no more
abbrev ends : MachineInput → Bool
ends (input.Event event.Success) = true
ends (input.Event event.Failure) = true
ends (input.Event event.Stop) = true
ends _ = false

abbrev hands_up : TxPass → Bool
hands_up p = is_timeout p || is_fault p

-- one that waits afterwards has waited; one that hands up a timeout or a fault has waited, and does no more; nor does one
-- by those events
abbrev goes_well : (before after : Bool) → TxPass → MachineInput → Bool
goes_well before after p i = (not after || before) && ((not (hands_up p) || (before && not after)) && (not (ends i) || not after))

abbrev next_state : {S : Type 0} → S → Option (MachineRow S) → S
next_state s None = s
next_state s (Some r) = r.next

each_input : (P : MachineInput → Type 0) → P input.EndDue → P input.RepeatDue → P input.NothingDue
    → P (input.Event event.Request) → P (input.Event event.Provisional) → P (input.Event event.Success) → P (input.Event event.Failure)
    → P (input.Event event.AnswerProvisional) → P (input.Event event.AnswerSuccess) → P (input.Event event.AnswerFailure)
    → P (input.Event event.Ack) → P (input.Event event.TransportError) → P (input.Event event.Tick) → P (input.Event event.Stop)
    → (i : MachineInput) → P i
each_input P a b c d e f g h j k l m n o input.EndDue = a
each_input P a b c d e f g h j k l m n o input.RepeatDue = b
each_input P a b c d e f g h j k l m n o input.NothingDue = c
each_input P a b c d e f g h j k l m n o (input.Event event.Request) = d
each_input P a b c d e f g h j k l m n o (input.Event event.Provisional) = e
each_input P a b c d e f g h j k l m n o (input.Event event.Success) = f
each_input P a b c d e f g h j k l m n o (input.Event event.Failure) = g
each_input P a b c d e f g h j k l m n o (input.Event event.AnswerProvisional) = h
each_input P a b c d e f g h j k l m n o (input.Event event.AnswerSuccess) = j
each_input P a b c d e f g h j k l m n o (input.Event event.AnswerFailure) = k
each_input P a b c d e f g h j k l m n o (input.Event event.Ack) = l
each_input P a b c d e f g h j k l m n o (input.Event event.TransportError) = m
each_input P a b c d e f g h j k l m n o (input.Event event.Tick) = n
each_input P a b c d e f g h j k l m n o (input.Event event.Stop) = o

abbrev InviteWell : InviteClientState → MachineInput → Type 0
InviteWell s i = goes_well (invite_awaits s) (invite_awaits (next_state s (invite_client s i))) (row_out (invite_client s i)).pass i ≡ true

invite_well : (s : InviteClientState) (i : MachineInput) → InviteWell s i
invite_well invite.Calling i = each_input (InviteWell invite.Calling) refl refl refl refl refl refl refl refl refl refl refl refl refl refl i
invite_well invite.Proceeding i = each_input (InviteWell invite.Proceeding) refl refl refl refl refl refl refl refl refl refl refl refl refl refl i
invite_well invite.Completed i = each_input (InviteWell invite.Completed) refl refl refl refl refl refl refl refl refl refl refl refl refl refl i
invite_well invite.Accepted i = each_input (InviteWell invite.Accepted) refl refl refl refl refl refl refl refl refl refl refl refl refl refl i
invite_well invite.Terminated i = each_input (InviteWell invite.Terminated) refl refl refl refl refl refl refl refl refl refl refl refl refl refl i

abbrev OtherWell : OtherClientState → MachineInput → Type 0
OtherWell s i = goes_well (other_awaits s) (other_awaits (next_state s (other_client s i))) (row_out (other_client s i)).pass i ≡ true

other_well : (s : OtherClientState) (i : MachineInput) → OtherWell s i
other_well other.Trying i = each_input (OtherWell other.Trying) refl refl refl refl refl refl refl refl refl refl refl refl refl refl i
other_well other.Proceeding i = each_input (OtherWell other.Proceeding) refl refl refl refl refl refl refl refl refl refl refl refl refl refl i
other_well other.Completed i = each_input (OtherWell other.Completed) refl refl refl refl refl refl refl refl refl refl refl refl refl refl i
other_well other.Terminated i = each_input (OtherWell other.Terminated) refl refl refl refl refl refl refl refl refl refl refl refl refl refl i

state_is : {S : Type 0} (o : Option (MachineRow S)) (now : ℕ) (m : Machine S) → (row_machine o now m).state ≡ next_state m.state o
state_is None now m = refl
state_is (Some r) now m = refl

-- the input that an event is to a transaction
abbrev input_to : TxEvent → ℕ → ClientTransaction → MachineInput
input_to ev now (InviteClient m) = input_of ev now m.timers
input_to ev now (OtherClient m) = input_of ev now m.timers

well : (ev : TxEvent) (now : ℕ) (c : ClientTransaction) → goes_well (awaits c) (awaits (client_after ev now c)) (client_out ev now c).pass (input_to ev now c) ≡ true
well ev now (InviteClient m) =
    let i = input_of ev now m.timers in
    let P : InviteClientState → Type 0 = λ s. goes_well (invite_awaits m.state) (invite_awaits s) (row_out (invite_client m.state i)).pass i ≡ true in
    subst P (sym (state_is (invite_client m.state i) now m)) (invite_well m.state i)
well ev now (OtherClient m) =
    let i = input_of ev now m.timers in
    let P : OtherClientState → Type 0 = λ s. goes_well (other_awaits m.state) (other_awaits s) (row_out (other_client m.state i)).pass i ≡ true in
    subst P (sym (state_is (other_client m.state i) now m)) (other_well m.state i)

-- ---- the parts of it

or_true : (a b : Bool) → (not a || b) ≡ true → a ≡ true → b ≡ true
or_true true b h e = h
or_true false b h e = absurd cc

false_of : (a : Bool) → not a ≡ true → a ≡ false
false_of true h = absurd cc
false_of false h = refl

pub waited : (ev : TxEvent) (now : ℕ) (c : ClientTransaction) → awaits (client_after ev now c) ≡ true → awaits c ≡ true
waited ev now c e = or_true (awaits (client_after ev now c)) (awaits c) (and_parts _ _ (well ev now c)).0 e

handed : (ev : TxEvent) (now : ℕ) (c : ClientTransaction) → hands_up (client_out ev now c).pass ≡ true → (awaits c ≡ true) × (awaits (client_after ev now c) ≡ false)
handed ev now c e =
    let both = and_parts _ _ (or_true (hands_up (client_out ev now c).pass) (awaits c && not (awaits (client_after ev now c))) (and_parts _ _ (and_parts _ _ (well ev now c)).1).0 e) in
    (both.0, false_of _ both.1)

pub timed_out : (ev : TxEvent) (now : ℕ) (c : ClientTransaction) → is_timeout (client_out ev now c).pass ≡ true → (awaits c ≡ true) × (awaits (client_after ev now c) ≡ false)
timed_out ev now c e = handed ev now c (ap (λ (b : Bool). b || is_fault (client_out ev now c).pass) e)

pub faulted : (ev : TxEvent) (now : ℕ) (c : ClientTransaction) → is_fault (client_out ev now c).pass ≡ true → (awaits c ≡ true) × (awaits (client_after ev now c) ≡ false)
faulted ev now c e = handed ev now c (ap (λ (b : Bool). is_timeout (client_out ev now c).pass || b) e ∙ or_to_true (is_timeout (client_out ev now c).pass))
  where
    or_to_true : (b : Bool) → (b || true) ≡ true
    or_to_true true = refl
    or_to_true false = refl

ended : (ev : TxEvent) (now : ℕ) (c : ClientTransaction) → ends (input_to ev now c) ≡ true → awaits (client_after ev now c) ≡ false
ended ev now c e = false_of _ (or_true (ends (input_to ev now c)) (not (awaits (client_after ev now c))) (and_parts _ _ (and_parts _ _ (well ev now c)).1).1 e)

pub stopped_waits : (now : ℕ) (c : ClientTransaction) → awaits (client_after event.Stop now c) ≡ false
stopped_waits now (InviteClient m) = ended event.Stop now (InviteClient m) refl
stopped_waits now (OtherClient m) = ended event.Stop now (OtherClient m) refl

pub success_waits : (now : ℕ) (c : ClientTransaction) → awaits (client_after event.Success now c) ≡ false
success_waits now (InviteClient m) = ended event.Success now (InviteClient m) refl
success_waits now (OtherClient m) = ended event.Success now (OtherClient m) refl

pub failure_waits : (now : ℕ) (c : ClientTransaction) → awaits (client_after event.Failure now c) ≡ false
failure_waits now (InviteClient m) = ended event.Failure now (InviteClient m) refl
failure_waits now (OtherClient m) = ended event.Failure now (OtherClient m) refl

-- When the caller's transaction waits for a final answer: until it is handed one, and from then on no more.
use Rattle.std.proofs.Common.{◌≡◌, ◌∙◌, ◌&&◌, not, ℕ, Bool, true, false, List, Option, Some, None, ap, refl, sym, subst, inl, inr, nat_lt}
use Rattle.std.specs.Prelude.{if◌then◌else◌}
use Rattle.std.proofs.lemmas.Bool.{and_right, cond-false, cond-true, false_from_ne_true}
use Rattle.sip_txn.specs.declared.event.TxEvent.{TxEvent}
use Rattle.sip_txn.specs.declared.event.TxEvent.TheVariants as event
use Rattle.sip_txn.specs.declared.invite_server.InviteServerState.{InviteServerState}
use Rattle.sip_txn.specs.declared.invite_server.InviteServerState.TheVariants as invite
use Rattle.sip_txn.specs.declared.other_server.OtherServerState.{OtherServerState}
use Rattle.sip_txn.specs.declared.other_server.OtherServerState.TheVariants as other
use Rattle.sip_txn.specs.declared.machine.Machine.{Machine}
use Rattle.sip_txn.specs.declared.machine.MachineRow.{MachineRow}
use Rattle.sip_txn.specs.declared.timers.MachineInput.{MachineInput}
use Rattle.sip_txn.specs.declared.timers.MachineInput.TheVariants as input
use Rattle.sip_txn.specs.Machine.{machine_after, row_machine, row_out}
use Rattle.sip_txn.specs.Timers.{input_of, is_due, moment_of}
use Rattle.sip_txn.specs.InviteServer.{invite_server}
use Rattle.sip_txn.specs.OtherServer.{other_server}
use Rattle.call_model.specs.Server.{ServerTransaction, InviteServer, OtherServer, answer_event, is_over, served_after, served_out}
use Rattle.call_model.specs.Step.{Turn}
use Rattle.call_model.specs.Take.{is_response}
use Rattle.call_laws.specs.Finals.{Awaits, CouldNotSend, has_failed, invite_failed, invite_takes, invite_waits, is_for_invite, is_success, other_waits, takes, waits}

-- ---- the state that a row leads to

abbrev pub after : {S : Type 0} → Option (MachineRow S) → S → S
after None s = s
after (Some r) s = r.next

pub state_after : {S : Type 0} (row : Option (MachineRow S)) (now : ℕ) (m : Machine S) → (row_machine row now m).state ≡ after row m.state
state_after None now m = refl
state_after (Some r) now m = refl

abbrev pub by_tick : (end repeat : Bool) → MachineInput
by_tick end repeat = if end then input.EndDue else (if repeat then input.RepeatDue else input.NothingDue)

-- ---- the transaction of an INVITE

invite_goes_on : (i : MachineInput) → invite_waits (after (invite_server invite.Proceeding i) invite.Proceeding) ≡ true
    → (s : InviteServerState) → invite_waits s ≡ true → invite_waits (after (invite_server s i) s) ≡ true
invite_goes_on i h invite.Proceeding e = h
invite_goes_on i h invite.Completed e = absurd cc
invite_goes_on i h invite.Confirmed e = absurd cc
invite_goes_on i h invite.Accepted e = absurd cc
invite_goes_on i h invite.Terminated e = absurd cc

invite_has_gone_on : (i : MachineInput) → invite_waits (after (invite_server invite.Completed i) invite.Completed) ≡ false
    → invite_waits (after (invite_server invite.Confirmed i) invite.Confirmed) ≡ false
    → invite_waits (after (invite_server invite.Accepted i) invite.Accepted) ≡ false
    → invite_waits (after (invite_server invite.Terminated i) invite.Terminated) ≡ false
    → (s : InviteServerState) → invite_waits s ≡ false → invite_waits (after (invite_server s i) s) ≡ false
invite_has_gone_on i a b c d invite.Proceeding e = absurd cc
invite_has_gone_on i a b c d invite.Completed e = a
invite_has_gone_on i a b c d invite.Confirmed e = b
invite_has_gone_on i a b c d invite.Accepted e = c
invite_has_gone_on i a b c d invite.Terminated e = d

invite_ticks : (s : InviteServerState) (end repeat : Bool) → invite_waits s ≡ true → invite_waits (after (invite_server s (by_tick end repeat)) s) ≡ true
invite_ticks s true repeat e = invite_goes_on input.EndDue refl s e
invite_ticks s false true e = invite_goes_on input.RepeatDue refl s e
invite_ticks s false false e = invite_goes_on input.NothingDue refl s e

invite_has_ticked : (s : InviteServerState) (end repeat : Bool) → invite_waits s ≡ false → invite_waits (after (invite_server s (by_tick end repeat)) s) ≡ false
invite_has_ticked s true repeat e = invite_has_gone_on input.EndDue refl refl refl refl s e
invite_has_ticked s false true e = invite_has_gone_on input.RepeatDue refl refl refl refl s e
invite_has_ticked s false false e = invite_has_gone_on input.NothingDue refl refl refl refl s e

invite_fails : (s : InviteServerState) → invite_waits (after (invite_server s (input.Event event.AnswerFailure)) s) ≡ false
invite_fails invite.Proceeding = refl
invite_fails invite.Completed = refl
invite_fails invite.Confirmed = refl
invite_fails invite.Accepted = refl
invite_fails invite.Terminated = refl

-- ---- that of another request

other_goes_on : (i : MachineInput) → other_waits (after (other_server other.Trying i) other.Trying) ≡ true
    → other_waits (after (other_server other.Proceeding i) other.Proceeding) ≡ true
    → (s : OtherServerState) → other_waits s ≡ true → other_waits (after (other_server s i) s) ≡ true
other_goes_on i a b other.Trying e = a
other_goes_on i a b other.Proceeding e = b
other_goes_on i a b other.Completed e = absurd cc
other_goes_on i a b other.Terminated e = absurd cc

other_has_gone_on : (i : MachineInput) → other_waits (after (other_server other.Completed i) other.Completed) ≡ false
    → other_waits (after (other_server other.Terminated i) other.Terminated) ≡ false
    → (s : OtherServerState) → other_waits s ≡ false → other_waits (after (other_server s i) s) ≡ false
other_has_gone_on i a b other.Trying e = absurd cc
other_has_gone_on i a b other.Proceeding e = absurd cc
other_has_gone_on i a b other.Completed e = a
other_has_gone_on i a b other.Terminated e = b

other_ticks : (s : OtherServerState) (end repeat : Bool) → other_waits s ≡ true → other_waits (after (other_server s (by_tick end repeat)) s) ≡ true
other_ticks s true repeat e = other_goes_on input.EndDue refl refl s e
other_ticks s false true e = other_goes_on input.RepeatDue refl refl s e
other_ticks s false false e = other_goes_on input.NothingDue refl refl s e

other_has_ticked : (s : OtherServerState) (end repeat : Bool) → other_waits s ≡ false → other_waits (after (other_server s (by_tick end repeat)) s) ≡ false
other_has_ticked s true repeat e = other_has_gone_on input.EndDue refl refl s e
other_has_ticked s false true e = other_has_gone_on input.RepeatDue refl refl s e
other_has_ticked s false false e = other_has_gone_on input.NothingDue refl refl s e

other_fails : (s : OtherServerState) → other_waits (after (other_server s (input.Event event.AnswerFailure)) s) ≡ false
other_fails other.Trying = refl
other_fails other.Proceeding = refl
other_fails other.Completed = refl
other_fails other.Terminated = refl

-- one that has ended stays so
other_ended : (i : MachineInput) → after (other_server other.Terminated i) other.Terminated ≡ other.Terminated
    → (m : Machine OtherServerState) (now : ℕ) → m.state ≡ other.Terminated → (row_machine (other_server m.state i) now m).state ≡ other.Terminated
other_ended i stays m now is =
    state_after (other_server m.state i) now m ∙ ap (λ (s : OtherServerState). after (other_server s i) s) is ∙ stays

ended_ticks : (end repeat : Bool) → after (other_server other.Terminated (by_tick end repeat)) other.Terminated ≡ other.Terminated
ended_ticks true repeat = refl
ended_ticks false true = refl
ended_ticks false false = refl

-- ---- both

abbrev pub Goes : TxEvent → Type 0
Goes ev = (turns : List Turn) (now : ℕ) (machine : ServerTransaction) → Awaits turns machine → Awaits turns (served_after ev now machine)

abbrev pub HasGone : TxEvent → Type 0
HasGone ev = (now : ℕ) (machine : ServerTransaction) → waits machine ≡ false → waits (served_after ev now machine) ≡ false

pub request_goes : Goes event.Request
request_goes turns now (InviteServer m) e =
    ap invite_waits (state_after (invite_server m.state (input.Event event.Request)) now m) ∙ invite_goes_on (input.Event event.Request) refl m.state e
request_goes turns now (OtherServer m) (inl e) =
    inl (ap other_waits (state_after (other_server m.state (input.Event event.Request)) now m) ∙ other_goes_on (input.Event event.Request) refl refl m.state e)
request_goes turns now (OtherServer m) (inr (is, failed)) = inr (other_ended (input.Event event.Request) refl m now is, failed)

pub ack_goes : Goes event.Ack
ack_goes turns now (InviteServer m) e =
    ap invite_waits (state_after (invite_server m.state (input.Event event.Ack)) now m) ∙ invite_goes_on (input.Event event.Ack) refl m.state e
ack_goes turns now (OtherServer m) (inl e) =
    inl (ap other_waits (state_after (other_server m.state (input.Event event.Ack)) now m) ∙ other_goes_on (input.Event event.Ack) refl refl m.state e)
ack_goes turns now (OtherServer m) (inr (is, failed)) = inr (other_ended (input.Event event.Ack) refl m now is, failed)

provisional_goes : Goes event.AnswerProvisional
provisional_goes turns now (InviteServer m) e =
    ap invite_waits (state_after (invite_server m.state (input.Event event.AnswerProvisional)) now m) ∙ invite_goes_on (input.Event event.AnswerProvisional) refl m.state e
provisional_goes turns now (OtherServer m) (inl e) =
    inl (ap other_waits (state_after (other_server m.state (input.Event event.AnswerProvisional)) now m) ∙ other_goes_on (input.Event event.AnswerProvisional) refl refl m.state e)
provisional_goes turns now (OtherServer m) (inr (is, failed)) = inr (other_ended (input.Event event.AnswerProvisional) refl m now is, failed)

pub tick_goes : Goes event.Tick
tick_goes turns now (InviteServer m) e =
    ap invite_waits (state_after (invite_server m.state (input_of event.Tick now m.timers)) now m)
    ∙ invite_ticks m.state (is_due now m.timers.end) (is_due now (moment_of m.timers.repeat)) e
tick_goes turns now (OtherServer m) (inl e) =
    inl (ap other_waits (state_after (other_server m.state (input_of event.Tick now m.timers)) now m)
    ∙ other_ticks m.state (is_due now m.timers.end) (is_due now (moment_of m.timers.repeat)) e)
tick_goes turns now (OtherServer m) (inr (is, failed)) =
    inr (other_ended (input_of event.Tick now m.timers) (ended_ticks (is_due now m.timers.end) (is_due now (moment_of m.timers.repeat))) m now is, failed)

-- an answer that could not be sent may end the transaction of a request other than INVITE
pub error_goes : (turns : List Turn) (now : ℕ) (machine : ServerTransaction) → CouldNotSend turns → Awaits turns machine → Awaits turns (served_after event.TransportError now machine)
error_goes turns now (InviteServer m) failed e =
    ap invite_waits (state_after (invite_server m.state (input.Event event.TransportError)) now m) ∙ invite_goes_on (input.Event event.TransportError) refl m.state e
error_goes turns now (OtherServer m) failed (inl e) = by m.state refl e
  where
    at : (s : OtherServerState) → m.state ≡ s → (machine_after other_server event.TransportError now m).state ≡ after (other_server s (input.Event event.TransportError)) s
    at s is =
        state_after (other_server m.state (input.Event event.TransportError)) now m
        ∙ ap (λ (x : OtherServerState). after (other_server x (input.Event event.TransportError)) x) is

    by : (s : OtherServerState) → m.state ≡ s → other_waits s ≡ true → Awaits turns (served_after event.TransportError now (OtherServer m))
    by other.Trying is w = inl (ap other_waits (at other.Trying is))
    by other.Proceeding is w = inr (at other.Proceeding is, failed)
    by other.Completed is w = absurd cc
    by other.Terminated is w = absurd cc
error_goes turns now (OtherServer m) failed (inr (is, before)) = inr (other_ended (input.Event event.TransportError) refl m now is, before)

-- the transaction stays that of an INVITE, or of another request
pub same_side : (ev : TxEvent) (now : ℕ) (machine : ServerTransaction) → is_for_invite (served_after ev now machine) ≡ is_for_invite machine
same_side ev now (InviteServer m) = refl
same_side ev now (OtherServer m) = refl

pub request_gone : HasGone event.Request
request_gone now (InviteServer m) e =
    ap invite_waits (state_after (invite_server m.state (input.Event event.Request)) now m) ∙ invite_has_gone_on (input.Event event.Request) refl refl refl refl m.state e
request_gone now (OtherServer m) e = ap other_waits (state_after (other_server m.state (input.Event event.Request)) now m) ∙ other_has_gone_on (input.Event event.Request) refl refl m.state e

pub ack_gone : HasGone event.Ack
ack_gone now (InviteServer m) e =
    ap invite_waits (state_after (invite_server m.state (input.Event event.Ack)) now m) ∙ invite_has_gone_on (input.Event event.Ack) refl refl refl refl m.state e
ack_gone now (OtherServer m) e = ap other_waits (state_after (other_server m.state (input.Event event.Ack)) now m) ∙ other_has_gone_on (input.Event event.Ack) refl refl m.state e

pub error_gone : HasGone event.TransportError
error_gone now (InviteServer m) e =
    ap invite_waits (state_after (invite_server m.state (input.Event event.TransportError)) now m)
    ∙ invite_has_gone_on (input.Event event.TransportError) refl refl refl refl m.state e
error_gone now (OtherServer m) e =
    ap other_waits (state_after (other_server m.state (input.Event event.TransportError)) now m) ∙ other_has_gone_on (input.Event event.TransportError) refl refl m.state e

pub tick_gone : HasGone event.Tick
tick_gone now (InviteServer m) e =
    ap invite_waits (state_after (invite_server m.state (input_of event.Tick now m.timers)) now m)
    ∙ invite_has_ticked m.state (is_due now m.timers.end) (is_due now (moment_of m.timers.repeat)) e
tick_gone now (OtherServer m) e =
    ap other_waits (state_after (other_server m.state (input_of event.Tick now m.timers)) now m)
    ∙ other_has_ticked m.state (is_due now m.timers.end) (is_due now (moment_of m.timers.repeat)) e

provisional_gone : HasGone event.AnswerProvisional
provisional_gone now (InviteServer m) e =
    ap invite_waits (state_after (invite_server m.state (input.Event event.AnswerProvisional)) now m)
    ∙ invite_has_gone_on (input.Event event.AnswerProvisional) refl refl refl refl m.state e
provisional_gone now (OtherServer m) e =
    ap other_waits (state_after (other_server m.state (input.Event event.AnswerProvisional)) now m)
    ∙ other_has_gone_on (input.Event event.AnswerProvisional) refl refl m.state e

success_gone : HasGone event.AnswerSuccess
success_gone now (InviteServer m) e =
    ap invite_waits (state_after (invite_server m.state (input.Event event.AnswerSuccess)) now m)
    ∙ invite_has_gone_on (input.Event event.AnswerSuccess) refl refl refl refl m.state e
success_gone now (OtherServer m) e =
    ap other_waits (state_after (other_server m.state (input.Event event.AnswerSuccess)) now m)
    ∙ other_has_gone_on (input.Event event.AnswerSuccess) refl refl m.state e

-- ---- by the status of an answer

-- a provisional answer leaves it waiting
pub provisional_waits : (turns : List Turn) (status now : ℕ) (machine : ServerTransaction) → nat_lt status 200 ≡ true → Awaits turns machine
    → Awaits turns (served_after (answer_event status) now machine)
provisional_waits turns status now machine is e =
    let P : TxEvent → Type 0 = λ ev. Awaits turns (served_after ev now machine) in
    subst P (sym (cond-true _ _ _ is)) (provisional_goes turns now machine e)

-- a failure ends the waiting
failed_waits : (now : ℕ) (machine : ServerTransaction) → waits (served_after event.AnswerFailure now machine) ≡ false
failed_waits now (InviteServer m) = ap invite_waits (state_after (invite_server m.state (input.Event event.AnswerFailure)) now m) ∙ invite_fails m.state
failed_waits now (OtherServer m) = ap other_waits (state_after (other_server m.state (input.Event event.AnswerFailure)) now m) ∙ other_fails m.state

failure_event : (status : ℕ) → nat_lt status 200 ≡ false → nat_lt status 300 ≡ false → answer_event status ≡ event.AnswerFailure
failure_event status a b = cond-false _ _ _ a ∙ cond-false _ _ _ b

pub failure_waits : (status now : ℕ) (machine : ServerTransaction) → nat_lt status 200 ≡ false → nat_lt status 300 ≡ false
    → waits (served_after (answer_event status) now machine) ≡ false
failure_waits status now machine a b = ap (λ (ev : TxEvent). waits (served_after ev now machine)) (failure_event status a b) ∙ failed_waits now machine

-- no answer makes it wait again
pub answered_waits : (status now : ℕ) (machine : ServerTransaction) → waits machine ≡ false → waits (served_after (answer_event status) now machine) ≡ false
answered_waits status now machine e = by (nat_lt status 200) (nat_lt status 300) refl refl
  where
    by : (a b : Bool) → nat_lt status 200 ≡ a → nat_lt status 300 ≡ b → waits (served_after (answer_event status) now machine) ≡ false
    by true b is also = ap (λ (ev : TxEvent). waits (served_after ev now machine)) (cond-true _ _ _ is) ∙ provisional_gone now machine e
    by false true is also = ap (λ (ev : TxEvent). waits (served_after ev now machine)) (cond-false _ _ _ is ∙ cond-true _ _ _ also) ∙ success_gone now machine e
    by false false is also = failure_waits status now machine is also

-- one that waits sends a failure
sends_failure : (now : ℕ) (machine : ServerTransaction) → waits machine ≡ true → is_response (served_out event.AnswerFailure now machine).send ≡ true
sends_failure now (InviteServer m) e = by m.state e
  where
    by : (s : InviteServerState) → invite_waits s ≡ true → is_response ((row_out (invite_server s (input.Event event.AnswerFailure))).send) ≡ true
    by invite.Proceeding e = refl
    by invite.Completed e = absurd cc
    by invite.Confirmed e = absurd cc
    by invite.Accepted e = absurd cc
    by invite.Terminated e = absurd cc
sends_failure now (OtherServer m) e = by m.state e
  where
    by : (s : OtherServerState) → other_waits s ≡ true → is_response ((row_out (other_server s (input.Event event.AnswerFailure))).send) ≡ true
    by other.Trying e = refl
    by other.Proceeding e = refl
    by other.Completed e = absurd cc
    by other.Terminated e = absurd cc

pub failure_sent : (status now : ℕ) (machine : ServerTransaction) → nat_lt status 200 ≡ false → nat_lt status 300 ≡ false → waits machine ≡ true
    → is_response (served_out (answer_event status) now machine).send ≡ true
failure_sent status now machine a b e =
    ap (λ (ev : TxEvent). is_response (served_out ev now machine).send) (failure_event status a b) ∙ sends_failure now machine e

-- ---- what it takes, it sends

takes_provisional : (now : ℕ) (machine : ServerTransaction) → waits machine ≡ true → is_response (served_out event.AnswerProvisional now machine).send ≡ true
takes_provisional now (InviteServer m) e = by m.state e
  where
    by : (s : InviteServerState) → invite_waits s ≡ true → is_response ((row_out (invite_server s (input.Event event.AnswerProvisional))).send) ≡ true
    by invite.Proceeding e = refl
    by invite.Completed e = absurd cc
    by invite.Confirmed e = absurd cc
    by invite.Accepted e = absurd cc
    by invite.Terminated e = absurd cc
takes_provisional now (OtherServer m) e = by m.state e
  where
    by : (s : OtherServerState) → other_waits s ≡ true → is_response ((row_out (other_server s (input.Event event.AnswerProvisional))).send) ≡ true
    by other.Trying e = refl
    by other.Proceeding e = refl
    by other.Completed e = absurd cc
    by other.Terminated e = absurd cc

abbrev pub takes_by : ServerTransaction → (success : Bool) → Bool
takes_by (InviteServer m) success = invite_takes m.state success
takes_by (OtherServer m) success = other_waits m.state

takes_success : (now : ℕ) (machine : ServerTransaction) → takes_by machine true ≡ true → is_response (served_out event.AnswerSuccess now machine).send ≡ true
takes_success now (InviteServer m) e = by m.state e
  where
    by : (s : InviteServerState) → invite_takes s true ≡ true → is_response ((row_out (invite_server s (input.Event event.AnswerSuccess))).send) ≡ true
    by invite.Proceeding e = refl
    by invite.Completed e = absurd cc
    by invite.Confirmed e = absurd cc
    by invite.Accepted e = refl
    by invite.Terminated e = absurd cc
takes_success now (OtherServer m) e = by m.state e
  where
    by : (s : OtherServerState) → other_waits s ≡ true → is_response ((row_out (other_server s (input.Event event.AnswerSuccess))).send) ≡ true
    by other.Trying e = refl
    by other.Proceeding e = refl
    by other.Completed e = absurd cc
    by other.Terminated e = absurd cc

waits_by : (machine : ServerTransaction) → takes_by machine false ≡ true → waits machine ≡ true
waits_by (InviteServer m) e = by m.state e
  where
    by : (s : InviteServerState) → invite_takes s false ≡ true → invite_waits s ≡ true
    by invite.Proceeding e = refl
    by invite.Completed e = absurd cc
    by invite.Confirmed e = absurd cc
    by invite.Accepted e = absurd cc
    by invite.Terminated e = absurd cc
waits_by (OtherServer m) e = e

takes_is : (machine : ServerTransaction) (status : ℕ) (b : Bool) → is_success status ≡ b → takes machine status ≡ takes_by machine b
takes_is (InviteServer m) status b e = ap (invite_takes m.state) e
takes_is (OtherServer m) status b e = refl

takes_sent : (status now : ℕ) (machine : ServerTransaction) → takes machine status ≡ true → is_response (served_out (answer_event status) now machine).send ≡ true
takes_sent status now machine e = by (nat_lt status 200) (nat_lt status 300) refl refl
  where
    by : (a b : Bool) → nat_lt status 200 ≡ a → nat_lt status 300 ≡ b → is_response (served_out (answer_event status) now machine).send ≡ true
    by true b is also =
        let plain : is_success status ≡ false =
        ap (λ (x : Bool). nat_lt status 300 && not x) is ∙ and_right (nat_lt status 300) false refl in
        let w = waits_by machine (sym (takes_is machine status false plain) ∙ e) in
        ap (λ (ev : TxEvent). is_response (served_out ev now machine).send) (cond-true _ _ _ is) ∙ takes_provisional now machine w
    by false true is also =
        let success : is_success status ≡ true = ap (λ (x : Bool). x && not (nat_lt status 200)) also ∙ ap (λ (x : Bool). true && not x) is in
        ap (λ (ev : TxEvent). is_response (served_out ev now machine).send) (cond-false _ _ _ is ∙ cond-true _ _ _ also)
        ∙ takes_success now machine (sym (takes_is machine status true success) ∙ e)
    by false false is also =
        let plain : is_success status ≡ false = ap (λ (x : Bool). x && not (nat_lt status 200)) also in
        let w = waits_by machine (sym (takes_is machine status false plain) ∙ e) in
        failure_sent status now machine is also w

-- so what is dropped it does not take
pub dropped_takes : (status now : ℕ) (machine : ServerTransaction) → is_response (served_out (answer_event status) now machine).send ≡ false → takes machine status ≡ false
dropped_takes status now machine drops = false_from_ne_true (takes machine status) (λ e. absurd (let h : true ≡ false = sym (takes_sent status now machine e) ∙ drops in cc))

-- ---- no failure was handed to that of an INVITE

invite_unfailed : (i : MachineInput) → invite_failed (after (invite_server invite.Proceeding i) invite.Proceeding) ≡ false
    → invite_failed (after (invite_server invite.Accepted i) invite.Accepted) ≡ false
    → invite_failed (after (invite_server invite.Terminated i) invite.Terminated) ≡ false
    → (s : InviteServerState) → invite_failed s ≡ false → invite_failed (after (invite_server s i) s) ≡ false
invite_unfailed i a b c invite.Proceeding e = a
invite_unfailed i a b c invite.Completed e = absurd cc
invite_unfailed i a b c invite.Confirmed e = absurd cc
invite_unfailed i a b c invite.Accepted e = b
invite_unfailed i a b c invite.Terminated e = c

ticked_unfailed : (s : InviteServerState) (end repeat : Bool) → invite_failed s ≡ false → invite_failed (after (invite_server s (by_tick end repeat)) s) ≡ false
ticked_unfailed s true repeat e = invite_unfailed input.EndDue refl refl refl s e
ticked_unfailed s false true e = invite_unfailed input.RepeatDue refl refl refl s e
ticked_unfailed s false false e = invite_unfailed input.NothingDue refl refl refl s e

abbrev pub NoneFails : TxEvent → Type 0
NoneFails ev = (now : ℕ) (machine : ServerTransaction) → has_failed machine ≡ false → has_failed (served_after ev now machine) ≡ false

pub request_unfailed : NoneFails event.Request
request_unfailed now (InviteServer m) e =
    ap invite_failed (state_after (invite_server m.state (input.Event event.Request)) now m) ∙ invite_unfailed (input.Event event.Request) refl refl refl m.state e
request_unfailed now (OtherServer m) e = refl

pub ack_unfailed : NoneFails event.Ack
ack_unfailed now (InviteServer m) e =
    ap invite_failed (state_after (invite_server m.state (input.Event event.Ack)) now m) ∙ invite_unfailed (input.Event event.Ack) refl refl refl m.state e
ack_unfailed now (OtherServer m) e = refl

pub error_unfailed : NoneFails event.TransportError
error_unfailed now (InviteServer m) e =
    ap invite_failed (state_after (invite_server m.state (input.Event event.TransportError)) now m)
    ∙ invite_unfailed (input.Event event.TransportError) refl refl refl m.state e
error_unfailed now (OtherServer m) e = refl

pub tick_unfailed : NoneFails event.Tick
tick_unfailed now (InviteServer m) e =
    ap invite_failed (state_after (invite_server m.state (input_of event.Tick now m.timers)) now m)
    ∙ ticked_unfailed m.state (is_due now m.timers.end) (is_due now (moment_of m.timers.repeat)) e
tick_unfailed now (OtherServer m) e = refl

provisional_unfailed : NoneFails event.AnswerProvisional
provisional_unfailed now (InviteServer m) e =
    ap invite_failed (state_after (invite_server m.state (input.Event event.AnswerProvisional)) now m)
    ∙ invite_unfailed (input.Event event.AnswerProvisional) refl refl refl m.state e
provisional_unfailed now (OtherServer m) e = refl

success_unfailed : NoneFails event.AnswerSuccess
success_unfailed now (InviteServer m) e =
    ap invite_failed (state_after (invite_server m.state (input.Event event.AnswerSuccess)) now m)
    ∙ invite_unfailed (input.Event event.AnswerSuccess) refl refl refl m.state e
success_unfailed now (OtherServer m) e = refl

-- by an answer that is no failure
pub answered_unfailed : (status now : ℕ) (machine : ServerTransaction) → nat_lt status 300 ≡ true → has_failed machine ≡ false
    → has_failed (served_after (answer_event status) now machine) ≡ false
answered_unfailed status now machine small e = by (nat_lt status 200) refl
  where
    P : TxEvent → Type 0
    P ev = has_failed (served_after ev now machine) ≡ false

    by : (b : Bool) → nat_lt status 200 ≡ b → has_failed (served_after (answer_event status) now machine) ≡ false
    by true is = subst P (sym (cond-true _ _ _ is)) (provisional_unfailed now machine e)
    by false is = subst P (sym (cond-false _ _ _ is ∙ cond-true _ _ _ small)) (success_unfailed now machine e)

-- one that had none, and takes no 2xx, has ended
pub has_ended : (machine : ServerTransaction) (status : ℕ) → is_for_invite machine ≡ true → is_success status ≡ true → takes machine status ≡ false → has_failed machine ≡ false
    → is_over machine
has_ended (InviteServer m) status side success e none = by m.state (sym (ap (invite_takes m.state) success) ∙ e) none
  where
    by : (s : InviteServerState) → invite_takes s true ≡ false → invite_failed s ≡ false → s ≡ invite.Terminated
    by invite.Proceeding e none = absurd cc
    by invite.Completed e none = absurd cc
    by invite.Confirmed e none = absurd cc
    by invite.Accepted e none = absurd cc
    by invite.Terminated e none = refl
has_ended (OtherServer m) status side success e none = absurd cc

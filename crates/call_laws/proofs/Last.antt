-- What a step leaves of the answer that was sent last.
use Rattle.std.proofs.Common.{◌≡◌, ◌∙◌, ◌⊎◌, ◌++◌, ◌∷◌, ℕ, Bool, true, false, List, [], Option, Some, None, ap, refl, sym, subst, inl, inr, nat_lt}
use Rattle.std.proofs.lemmas.Bool.{cond-false, cond-true}
use Rattle.std.specs.List.{AllByRecursion}
use Rattle.fork_model.specs.Reply.{Up, Nothing, Provisional, Success, Final}
use Rattle.std.specs.List.{flat_map}
use Rattle.sip_lex.specs.Line.{ended}
use Rattle.sip_text.specs.Text.{MessageText, header_text, spelling, start_line}
use Rattle.sip_txn.specs.declared.event.TxEvent.{TxEvent}
use Rattle.sip_txn.specs.declared.event.TxEvent.TheVariants as event
use Rattle.sip_txn.specs.declared.invite_server.InviteServerState.{InviteServerState}
use Rattle.sip_txn.specs.declared.invite_server.InviteServerState.TheVariants as invite
use Rattle.sip_txn.specs.declared.other_server.OtherServerState.{OtherServerState}
use Rattle.sip_txn.specs.declared.other_server.OtherServerState.TheVariants as other
use Rattle.sip_txn.specs.declared.timers.MachineInput.TheVariants as input
use Rattle.sip_txn.specs.Machine.{row_out}
use Rattle.sip_txn.specs.Timers.{is_due, moment_of}
use Rattle.sip_txn.specs.InviteServer.{invite_server}
use Rattle.sip_txn.specs.OtherServer.{other_server}
use Rattle.sip_uri.specs.declared.hop.Hop.{Hop}
use Rattle.call_model.specs.Built.{status_of}
use Rattle.call_model.specs.Call.{Call}
use Rattle.call_model.specs.Posting.{owed_by, passed}
use Rattle.call_model.specs.Server as server
use Rattle.call_model.specs.Server.{Owed, ServerTransaction, InviteServer, OtherServer, answer_event, served_after, served_out}
use Rattle.call_model.specs.Step as step
use Rattle.call_model.specs.Take.{again_if, is_response}
use Rattle.call_laws.specs.Last.{IsUnsent, KeepsLast, is_again}
use Rattle.call_laws.proofs.Serving.{Serves, Beside, Posted, Cancelled, CancelledBoth, Acked, Faulted, Ticked, Repeated, Sent, Dropped, Again, Okayed}
use Rattle.call_laws.proofs.Waits.{after, by_tick, state_after}

-- ---- a message is not spelled by nothing

some_last : (xs ys : List ℕ) (n : ℕ) → xs ++ n ∷ ys ≡ [] → ⊥
some_last [] ys n e = absurd cc
some_last (x ∷ xs) ys n e = absurd cc

join_left : (xs ys : List ℕ) → xs ++ ys ≡ [] → xs ≡ []
join_left [] ys e = refl
join_left (x ∷ xs) ys e = absurd cc

pub spelled : (m : MessageText) → spelling m ≡ [] → ⊥
spelled m e = some_last (start_line m.start) (10 ∷ []) 13 (join_left (ended (start_line m.start)) (flat_map header_text m.headers ++ (ended [] ++ m.body)) e)

-- ---- a transaction that has sent nothing yet

abbrev pub NoneAgain : List Owed → Type 0
NoneAgain owed = AllByRecursion (λ (o : Owed). is_again o ≡ false) owed

none_joined : (xs ys : List Owed) → NoneAgain xs → NoneAgain ys → NoneAgain (xs ++ ys)
none_joined [] ys h k = k
none_joined (x ∷ xs) ys h k = (h.0, none_joined xs ys h.1 k)

passed_fresh : (response : Option MessageText) → NoneAgain (passed response)
passed_fresh None = tt
passed_fresh (Some m) = (refl, tt)

up_fresh : (up : Up) (response : Option MessageText) → NoneAgain (owed_by up response)
up_fresh Nothing response = tt
up_fresh (Provisional n) response = passed_fresh response
up_fresh (Success n) response = passed_fresh response
up_fresh (Final choice) response = (refl, tt)

-- it owes more
more_owed : (machine : ServerTransaction) (owed more : List Owed) → NoneAgain more → IsUnsent machine owed → IsUnsent machine (owed ++ more)
more_owed (InviteServer m) owed more fresh (is, rest, e) = (is, rest ++ more, ap (λ (os : List Owed). os ++ more) e)
more_owed (OtherServer m) owed more fresh (is, none) = (is, none_joined owed more none fresh)

-- it is told what it does not answer
abbrev pub Stays : TxEvent → Type 0
Stays ev = (now : ℕ) (machine : ServerTransaction) (owed : List Owed) → IsUnsent machine owed → IsUnsent (served_after ev now machine) owed

ack_stays : Stays event.Ack
ack_stays now (InviteServer m) owed (is, rest, e) =
    let P : InviteServerState → Type 0 = λ s. after (invite_server s (input.Event event.Ack)) s ≡ invite.Proceeding in
    (state_after (invite_server m.state (input.Event event.Ack)) now m ∙ subst P (sym is) refl, rest, e)
ack_stays now (OtherServer m) owed (is, none) =
    let P : OtherServerState → Type 0 = λ s. after (other_server s (input.Event event.Ack)) s ≡ other.Trying in
    (state_after (other_server m.state (input.Event event.Ack)) now m ∙ subst P (sym is) refl, none)

error_stays : Stays event.TransportError
error_stays now (InviteServer m) owed (is, rest, e) =
    let P : InviteServerState → Type 0 = λ s. after (invite_server s (input.Event event.TransportError)) s ≡ invite.Proceeding in
    (state_after (invite_server m.state (input.Event event.TransportError)) now m ∙ subst P (sym is) refl, rest, e)
error_stays now (OtherServer m) owed (is, none) =
    let P : OtherServerState → Type 0 = λ s. after (other_server s (input.Event event.TransportError)) s ≡ other.Trying in
    (state_after (other_server m.state (input.Event event.TransportError)) now m ∙ subst P (sym is) refl, none)

invite_ticks : (a b : Bool) → after (invite_server invite.Proceeding (by_tick a b)) invite.Proceeding ≡ invite.Proceeding
invite_ticks true b = refl
invite_ticks false true = refl
invite_ticks false false = refl

other_ticks : (a b : Bool) → after (other_server other.Trying (by_tick a b)) other.Trying ≡ other.Trying
other_ticks true b = refl
other_ticks false true = refl
other_ticks false false = refl

tick_stays : Stays event.Tick
tick_stays now (InviteServer m) owed (is, rest, e) =
    let i = by_tick (is_due now m.timers.end) (is_due now (moment_of m.timers.repeat)) in
    let P : InviteServerState → Type 0 = λ s. after (invite_server s i) s ≡ invite.Proceeding in
    (state_after (invite_server m.state i) now m ∙ subst P (sym is) (invite_ticks (is_due now m.timers.end) (is_due now (moment_of m.timers.repeat))), rest, e)
tick_stays now (OtherServer m) owed (is, none) =
    let i = by_tick (is_due now m.timers.end) (is_due now (moment_of m.timers.repeat)) in
    let P : OtherServerState → Type 0 = λ s. after (other_server s i) s ≡ other.Trying in
    (state_after (other_server m.state i) now m ∙ subst P (sym is) (other_ticks (is_due now m.timers.end) (is_due now (moment_of m.timers.repeat))), none)

-- the request again: that of an INVITE has its 100 owed first, another is not answered yet
request_stays : (now : ℕ) (machine : ServerTransaction) (owed : List Owed) (sends : Bool) → sends ≡ is_response (served_out event.Request now machine).send
    → IsUnsent machine owed → IsUnsent (served_after event.Request now machine) (owed ++ again_if sends)
request_stays now (InviteServer m) owed sends so (is, rest, e) =
    let P : InviteServerState → Type 0 = λ s. after (invite_server s (input.Event event.Request)) s ≡ invite.Proceeding in
    (state_after (invite_server m.state (input.Event event.Request)) now m ∙ subst P (sym is) refl, rest ++ again_if sends, ap (λ (os : List Owed). os ++ again_if sends) e)
request_stays now (OtherServer m) owed sends so (is, none) =
    let P : OtherServerState → Type 0 = λ s. after (other_server s (input.Event event.Request)) s ≡ other.Trying in
    let Q : OtherServerState → Type 0 = λ s. is_response ((row_out (other_server s (input.Event event.Request))).send) ≡ false in
    let quiet : sends ≡ false = so ∙ subst Q (sym is) refl in
    let N : Bool → Type 0 = λ b. NoneAgain (again_if b) in
    (state_after (other_server m.state (input.Event event.Request)) now m ∙ subst P (sym is) refl, none_joined owed (again_if sends) none (subst N (sym quiet) tt))

-- it sends nothing by a tick
pub tick_quiet : (now : ℕ) (machine : ServerTransaction) (owed : List Owed) → IsUnsent machine owed → is_response (served_out event.Tick now machine).send ≡ false
tick_quiet now (InviteServer m) owed (is, rest, e) =
    let i = by_tick (is_due now m.timers.end) (is_due now (moment_of m.timers.repeat)) in
    let P : InviteServerState → Type 0 = λ s. is_response ((row_out (invite_server s i)).send) ≡ false in
    subst P (sym is) (by (is_due now m.timers.end) (is_due now (moment_of m.timers.repeat)))
  where
    by : (a b : Bool) → is_response ((row_out (invite_server invite.Proceeding (by_tick a b))).send) ≡ false
    by true b = refl
    by false true = refl
    by false false = refl
tick_quiet now (OtherServer m) owed (is, none) =
    let i = by_tick (is_due now m.timers.end) (is_due now (moment_of m.timers.repeat)) in
    let P : OtherServerState → Type 0 = λ s. is_response ((row_out (other_server s i)).send) ≡ false in
    subst P (sym is) (by (is_due now m.timers.end) (is_due now (moment_of m.timers.repeat)))
  where
    by : (a b : Bool) → is_response ((row_out (other_server other.Trying (by_tick a b))).send) ≡ false
    by true b = refl
    by false true = refl
    by false false = refl

-- it sends the first answer that it is handed
answer_sent : (status now : ℕ) (machine : ServerTransaction) (owed : List Owed) → IsUnsent machine owed → is_response (served_out (answer_event status) now machine).send ≡ true
answer_sent status now machine owed un = by (nat_lt status 200) (nat_lt status 300) refl refl
  where
    at : (ev : TxEvent) → (ev ≡ event.AnswerProvisional) ⊎ ((ev ≡ event.AnswerSuccess) ⊎ (ev ≡ event.AnswerFailure)) → (m : ServerTransaction) → IsUnsent m owed
        → is_response (served_out ev now m).send ≡ true
    at ev which (InviteServer m) (is, rest, e) = elim which [
      | inl p ↦ let P : InviteServerState → Type 0 = λ s. is_response ((row_out (invite_server s (input.Event event.AnswerProvisional))).send) ≡ true in
          ap (λ (v : TxEvent). is_response (served_out v now (InviteServer m)).send) p ∙ subst P (sym is) refl
      | inr q ↦ elim q [
        | inl p ↦ let P : InviteServerState → Type 0 = λ s. is_response ((row_out (invite_server s (input.Event event.AnswerSuccess))).send) ≡ true in
            ap (λ (v : TxEvent). is_response (served_out v now (InviteServer m)).send) p ∙ subst P (sym is) refl
        | inr p ↦ let P : InviteServerState → Type 0 = λ s. is_response ((row_out (invite_server s (input.Event event.AnswerFailure))).send) ≡ true in
            ap (λ (v : TxEvent). is_response (served_out v now (InviteServer m)).send) p ∙ subst P (sym is) refl
      ]
    ]
    at ev which (OtherServer m) (is, none) = elim which [
      | inl p ↦ let P : OtherServerState → Type 0 = λ s. is_response ((row_out (other_server s (input.Event event.AnswerProvisional))).send) ≡ true in
          ap (λ (v : TxEvent). is_response (served_out v now (OtherServer m)).send) p ∙ subst P (sym is) refl
      | inr q ↦ elim q [
        | inl p ↦ let P : OtherServerState → Type 0 = λ s. is_response ((row_out (other_server s (input.Event event.AnswerSuccess))).send) ≡ true in
            ap (λ (v : TxEvent). is_response (served_out v now (OtherServer m)).send) p ∙ subst P (sym is) refl
        | inr p ↦ let P : OtherServerState → Type 0 = λ s. is_response ((row_out (other_server s (input.Event event.AnswerFailure))).send) ≡ true in
            ap (λ (v : TxEvent). is_response (served_out v now (OtherServer m)).send) p ∙ subst P (sym is) refl
      ]
    ]

    by : (a b : Bool) → nat_lt status 200 ≡ a → nat_lt status 300 ≡ b → is_response (served_out (answer_event status) now machine).send ≡ true
    by true b x y = at (answer_event status) (inl (cond-true _ _ _ x)) machine un
    by false true x y = at (answer_event status) (inr (inl (cond-false _ _ _ x ∙ cond-true _ _ _ y))) machine un
    by false false x y = at (answer_event status) (inr (inr (cond-false _ _ _ x ∙ cond-false _ _ _ y))) machine un

-- the last answer again is not owed yet
pub again_never : (machine : ServerTransaction) (owed rest : List Owed) → owed ≡ server.Again ∷ rest → IsUnsent machine owed → ⊥
again_never (InviteServer m) owed rest e (is, more, trying) = absurd (let h : server.Again ∷ rest ≡ server.Trying ∷ more = sym e ∙ trying in cc)
again_never (OtherServer m) owed rest e (is, none) =
    let N : List Owed → Type 0 = λ os. NoneAgain os in
    let h : true ≡ false = (subst N e none).0 in
    absurd cc

-- the 200 to a CANCEL goes out
okay_stays : (machine : ServerTransaction) (owed rest : List Owed) (cancel : MessageText) (to : Hop) → owed ≡ server.CancelOk cancel to ∷ rest → IsUnsent machine owed → IsUnsent machine rest
okay_stays (InviteServer m) owed rest cancel to e (is, more, trying) = absurd (let h : server.CancelOk cancel to ∷ rest ≡ server.Trying ∷ more = sym e ∙ trying in cc)
okay_stays (OtherServer m) owed rest cancel to e (is, none) = let N : List Owed → Type 0 = λ os. NoneAgain os in (is, (subst N e none).1)

module _ (now : ℕ) (call new : Call) (input : step.Input) (output : step.Output) where
  abbrev Unsent : server.Server → Type 0
  Unsent s = s.last ≡ [] → IsUnsent s.machine s.owed

  last_by : (s : server.Server) → new.server ≡ s → Unsent s → KeepsLast new
  last_by s e h = subst Unsent (sym e) h

  pub last_step : Serves now call input output new → KeepsLast call → KeepsLast new
  last_step (Beside l s) keeps = last_by call.server s keeps
  last_step (Posted ev response reply goes is l s) keeps =
      last_by _ s (λ none. more_owed call.server.machine call.server.owed (owed_by reply.up response) (up_fresh reply.up response) (keeps none))
  last_step (Cancelled cancel hop marks l s) keeps =
      last_by _ s (λ none. more_owed call.server.machine call.server.owed (server.CancelOk cancel hop ∷ []) (refl, tt) (keeps none))
  last_step (CancelledBoth cancel hop ev reply marks is l s) keeps =
      last_by _ s (λ none. more_owed call.server.machine (call.server.owed ++ server.CancelOk cancel hop ∷ []) (owed_by reply.up None) (up_fresh reply.up None)
      (more_owed call.server.machine call.server.owed (server.CancelOk cancel hop ∷ []) (refl, tt) (keeps none)))
  last_step (Acked l s) keeps = last_by _ s (λ none. ack_stays now call.server.machine call.server.owed (keeps none))
  last_step (Faulted why l s) keeps = last_by _ s (λ none. error_stays now call.server.machine call.server.owed (keeps none))
  last_step (Ticked sends out is l s) keeps = last_by _ s (λ none. tick_stays now call.server.machine call.server.owed (keeps none))
  last_step (Repeated sends is l s) keeps = last_by _ s (λ none. request_stays now call.server.machine call.server.owed sends is (keeps none))
  last_step (Sent owed rest m is made sends out l s) keeps = last_by _ s (λ none. absurd (spelled m none))
  last_step (Dropped owed rest m is made drops out l s) keeps =
      last_by _ s (λ none. absurd (let h : true ≡ false = sym (answer_sent (status_of m) now call.server.machine call.server.owed (keeps none)) ∙ drops in cc))
  last_step (Again rest is out l s) keeps = last_by _ s (λ none. absurd (again_never call.server.machine call.server.owed rest is (keeps none)))
  last_step (Okayed cancel hop rest is out l s) keeps = last_by _ s (λ none. okay_stays call.server.machine call.server.owed rest cancel hop is (keeps none))

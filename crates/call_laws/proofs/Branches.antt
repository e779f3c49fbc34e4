-- What a step does to the parts of branches: which failures they keep, which ACKs they owe, and which have accepted a 2xx.
use Rattle.std.proofs.Common.{◌≡◌, ◌∙◌, ◌⊎◌, ◌++◌, ◌∷◌, ℕ, zero, suc, Bool, true, false, List, [], map, Option, Some, None, ap, refl, sym, subst, inl, inr, nat_lt, slice_get, append-nil, cond}
use Rattle.std.proofs.lemmas.Bool.{cond-false, cond-true}
use Rattle.fork_model.specs.Event.{Event, FinalAnswer}
use Rattle.fork_model.specs.Event as fork
use Rattle.fork_model.specs.Reply.{Reply}
use Rattle.fork_model.specs.Table.{Kind, Row}
use Rattle.fork_model.specs.Table as table
use Rattle.sip_text.specs.Text.{MessageText, spelling}
use Rattle.sip_uri.specs.declared.hop.Hop.{Hop}
use Rattle.sip_uri.specs.Contact.{ContactText}
use Rattle.sip_txn.specs.declared.event.TxEvent.{TxEvent}
use Rattle.sip_txn.specs.declared.event.TxEvent.TheVariants as event
use Rattle.sip_txn.specs.declared.event.TxSend.{TxSend}
use Rattle.sip_txn.specs.declared.event.TxSend.TheVariants as send
use Rattle.sip_txn.specs.declared.timers.MachineInput.{MachineInput as TimerInput}
use Rattle.sip_txn.specs.declared.timers.Reliability.{Reliability}
use Rattle.sip_txn.specs.declared.timers.MachineInput.TheVariants as input
use Rattle.sip_txn.specs.declared.invite_client.InviteClientState.{InviteClientState}
use Rattle.sip_txn.specs.declared.invite_client.InviteClientState.TheVariants as invite
use Rattle.sip_txn.specs.declared.other_client.OtherClientState.{OtherClientState}
use Rattle.sip_txn.specs.declared.other_client.OtherClientState.TheVariants as other
use Rattle.sip_txn.specs.InviteClient.{invite_client}
use Rattle.sip_txn.specs.OtherClient.{other_client}
use Rattle.sip_txn.specs.Machine.{row_out}
use Rattle.sip_txn.specs.Timers.{input_of, is_due, moment_of}
use Rattle.call_model.specs.declared.cause.Cause.{Cause}
use Rattle.call_model.specs.declared.cause.Cause.TheVariants as cause
use Rattle.call_model.specs.Built.{ack_to, answer_in, answer_of, status_of}
use Rattle.call_model.specs.Call.{Call, found, nth_branch, set_branch, with_branch}
use Rattle.call_model.specs.Client.{ClientTransaction, InviteClient, OtherClient, client_after, client_out, client_start}
use Rattle.call_model.specs.Due.{Action}
use Rattle.call_model.specs.Due as due
use Rattle.call_model.specs.Failed.{Fails, FaultsBy, FaultsClient, cancel_faulted, faulted_cancel}
use Rattle.call_model.specs.OpenedRequest.{Destination, kind_of}
use Rattle.call_model.specs.Branch.{Branch, CancelTransaction}
use Rattle.call_model.specs.Posting.{Posts, call_tag, no_branch, rows_more, destinations_of}
use Rattle.fork_model.specs.Log.{added}
use Rattle.call_model.specs.Pump as pump
use Rattle.call_model.specs.Pump.{Pumped, Pumps, Does, AnswersBy, AnswersWith, SendsAnswer, TicksClientBy, FiresTimerC}
use Rattle.call_model.specs.Response.{challenges_by, contacts_for, offer_of}
use Rattle.call_model.specs.Server as server
use Rattle.call_model.specs.Server.{Owed}
use Rattle.call_model.specs.Sound.{awaits, invite_awaits, other_awaits}
use Rattle.call_model.specs.Step as step
use Rattle.call_model.specs.Step.{Input, Output, Step}
use Rattle.call_model.specs.Take as to
use Rattle.call_model.specs.Take.{CancelledBy, Responds, Taken, TakesAs, ack_by, is_passed, branch_after, branch_posted, response_event}
use Rattle.call_laws.proofs.Waits.{after, by_tick, state_after}

-- ---- lists of parts

at_with : (branches : List (Option Branch)) (n m : ℕ) (branch l : Branch) → found (slice_get (with_branch branches n branch) m) ≡ Some l
    → ((m ≡ n) × (l ≡ branch)) ⊎ (found (slice_get branches m) ≡ Some l)
at_with [] n m branch l e = inr e
at_with (x ∷ branches) zero zero branch l e = inl (refl, let h : Some branch ≡ Some l = e in cc)
at_with (x ∷ branches) zero (suc m) branch l e = inr e
at_with (x ∷ branches) (suc n) zero branch l e = inr e
at_with (x ∷ branches) (suc n) (suc m) branch l e = up (at_with branches n m branch l e)
  where
    up : ((m ≡ n) × (l ≡ branch)) ⊎ (found (slice_get branches m) ≡ Some l) → ((suc m ≡ suc n) × (l ≡ branch)) ⊎ (found (slice_get branches m) ≡ Some l)
    up (inl p) = inl (ap suc p.0, p.1)
    up (inr q) = inr q

at_more : (branches : List (Option Branch)) (rows : List Row) (m : ℕ) (l : Branch) → found (slice_get (branches ++ map no_branch rows) m) ≡ Some l → found (slice_get branches m) ≡ Some l
at_more [] [] m l e = e
at_more [] (row ∷ rows) zero l e = absurd cc
at_more [] (row ∷ rows) (suc m) l e = at_more [] rows m l e
at_more (x ∷ branches) rows zero l e = e
at_more (x ∷ branches) rows (suc m) l e = at_more branches rows m l e

abbrev pub ack_in : Option Branch → Option (List ℕ)
ack_in None = None
ack_in (Some branch) = branch.ack

-- ---- when an ACK is owed

provisional_quiet : (now : ℕ) (c : ClientTransaction) → (client_out event.Provisional now c).send ≡ send.Ack → ⊥
provisional_quiet now (InviteClient m) e = by m.state e
  where
    by : (s : InviteClientState) → (row_out (invite_client s (input.Event event.Provisional))).send ≡ send.Ack → ⊥
    by invite.Calling e = absurd cc
    by invite.Proceeding e = absurd cc
    by invite.Completed e = absurd cc
    by invite.Accepted e = absurd cc
    by invite.Terminated e = absurd cc
provisional_quiet now (OtherClient m) e = by m.state e
  where
    by : (s : OtherClientState) → (row_out (other_client s (input.Event event.Provisional))).send ≡ send.Ack → ⊥
    by other.Trying e = absurd cc
    by other.Proceeding e = absurd cc
    by other.Completed e = absurd cc
    by other.Terminated e = absurd cc

success_quiet : (now : ℕ) (c : ClientTransaction) → (client_out event.Success now c).send ≡ send.Ack → ⊥
success_quiet now (InviteClient m) e = by m.state e
  where
    by : (s : InviteClientState) → (row_out (invite_client s (input.Event event.Success))).send ≡ send.Ack → ⊥
    by invite.Calling e = absurd cc
    by invite.Proceeding e = absurd cc
    by invite.Completed e = absurd cc
    by invite.Accepted e = absurd cc
    by invite.Terminated e = absurd cc
success_quiet now (OtherClient m) e = by m.state e
  where
    by : (s : OtherClientState) → (row_out (other_client s (input.Event event.Success))).send ≡ send.Ack → ⊥
    by other.Trying e = absurd cc
    by other.Proceeding e = absurd cc
    by other.Completed e = absurd cc
    by other.Terminated e = absurd cc

-- a failure alone is acknowledged
failure_acked : (status now : ℕ) (c : ClientTransaction) → (client_out (response_event status) now c).send ≡ send.Ack → nat_lt status 300 ≡ false
failure_acked status now c e = by (nat_lt status 200) (nat_lt status 300) refl refl
  where
    by : (a b : Bool) → nat_lt status 200 ≡ a → nat_lt status 300 ≡ b → nat_lt status 300 ≡ false
    by true b is also = absurd (provisional_quiet now c (let P : TxEvent → Type 0 = λ ev. (client_out ev now c).send ≡ send.Ack in subst P (cond-true _ _ _ is) e))
    by false true is also =
        absurd (success_quiet now c (let P : TxEvent → Type 0 = λ ev. (client_out ev now c).send ≡ send.Ack in subst P (cond-false _ _ _ is ∙ cond-true _ _ _ also) e))
    by false false is also = also

ack_case : (s : TxSend) (ack bytes : List ℕ) (old : Option (List ℕ)) → ack_by s ack old ≡ Some bytes → (old ≡ Some bytes) ⊎ ((s ≡ send.Ack) × (bytes ≡ ack))
ack_case send.Nothing ack bytes old e = inl e
ack_case send.Request ack bytes old e = inl e
ack_case send.Ack ack bytes old e = inr (refl, let same : bytes ≡ ack = cc in same)
ack_case send.Response ack bytes old e = inl e

-- ---- which client transactions have accepted a 2xx (RFC 6026 section 7.2)

abbrev pub invite_accepted : InviteClientState → Bool
invite_accepted invite.Calling = false
invite_accepted invite.Proceeding = false
invite_accepted invite.Completed = false
invite_accepted invite.Accepted = true
invite_accepted invite.Terminated = false

abbrev pub has_accepted : ClientTransaction → Bool
has_accepted (InviteClient m) = invite_accepted m.state
has_accepted (OtherClient m) = false

abbrev pub accepted_in : Option Branch → Bool
accepted_in None = false
accepted_in (Some branch) = has_accepted branch.client

-- by an input that is no 2xx none comes to be so
none_new : (i : TimerInput) → invite_accepted (after (invite_client invite.Calling i) invite.Calling) ≡ false
    → invite_accepted (after (invite_client invite.Proceeding i) invite.Proceeding) ≡ false
    → invite_accepted (after (invite_client invite.Completed i) invite.Completed) ≡ false
    → invite_accepted (after (invite_client invite.Terminated i) invite.Terminated) ≡ false
    → (s : InviteClientState) → invite_accepted (after (invite_client s i) s) ≡ true → invite_accepted s ≡ true
none_new i a b c d invite.Calling e = absurd (let h : false ≡ true = sym a ∙ e in cc)
none_new i a b c d invite.Proceeding e = absurd (let h : false ≡ true = sym b ∙ e in cc)
none_new i a b c d invite.Completed e = absurd (let h : false ≡ true = sym c ∙ e in cc)
none_new i a b c d invite.Accepted e = refl
none_new i a b c d invite.Terminated e = absurd (let h : false ≡ true = sym d ∙ e in cc)

none_ticked : (s : InviteClientState) (end repeat : Bool) → invite_accepted (after (invite_client s (by_tick end repeat)) s) ≡ true → invite_accepted s ≡ true
none_ticked s true repeat e = none_new input.EndDue refl refl refl refl s e
none_ticked s false true e = none_new input.RepeatDue refl refl refl refl s e
none_ticked s false false e = none_new input.NothingDue refl refl refl refl s e

abbrev NoneBy : TxEvent → Type 0
NoneBy ev = (now : ℕ) (c : ClientTransaction) → has_accepted (client_after ev now c) ≡ true → has_accepted c ≡ true

by_ticks : NoneBy event.Tick
by_ticks now (InviteClient m) e =
    none_ticked m.state (is_due now m.timers.end) (is_due now (moment_of m.timers.repeat))
    (sym (ap invite_accepted (state_after (invite_client m.state (input_of event.Tick now m.timers)) now m)) ∙ e)
by_ticks now (OtherClient m) e = absurd cc

by_stops : NoneBy event.Stop
by_stops now (InviteClient m) e =
    none_new (input.Event event.Stop) refl refl refl refl m.state
    (sym (ap invite_accepted (state_after (invite_client m.state (input.Event event.Stop)) now m)) ∙ e)
by_stops now (OtherClient m) e = absurd cc

by_errors : NoneBy event.TransportError
by_errors now (InviteClient m) e =
    none_new (input.Event event.TransportError) refl refl refl refl m.state
    (sym (ap invite_accepted (state_after (invite_client m.state (input.Event event.TransportError)) now m)) ∙ e)
by_errors now (OtherClient m) e = absurd cc

by_provisionals : NoneBy event.Provisional
by_provisionals now (InviteClient m) e =
    none_new (input.Event event.Provisional) refl refl refl refl m.state
    (sym (ap invite_accepted (state_after (invite_client m.state (input.Event event.Provisional)) now m)) ∙ e)
by_provisionals now (OtherClient m) e = absurd cc

by_failures : NoneBy event.Failure
by_failures now (InviteClient m) e =
    none_new (input.Event event.Failure) refl refl refl refl m.state
    (sym (ap invite_accepted (state_after (invite_client m.state (input.Event event.Failure)) now m)) ∙ e)
by_failures now (OtherClient m) e = absurd cc

none_starts : (kind : Kind) (now : ℕ) (r : Reliability) → has_accepted (client_start kind now r) ≡ false
none_starts table.Invite now r = refl
none_starts table.Other now r = refl

-- a 2xx that is handed up comes to one that waited, or had accepted one
pub success_passed : (now : ℕ) (c : ClientTransaction) → is_passed (client_out event.Success now c).pass ≡ true → (awaits c ≡ true) ⊎ (has_accepted c ≡ true)
success_passed now (InviteClient m) e = by m.state e
  where
    by : (s : InviteClientState) → is_passed (row_out (invite_client s (input.Event event.Success))).pass ≡ true → (invite_awaits s ≡ true) ⊎ (invite_accepted s ≡ true)
    by invite.Calling e = inl refl
    by invite.Proceeding e = inl refl
    by invite.Completed e = absurd cc
    by invite.Accepted e = inr refl
    by invite.Terminated e = absurd cc
success_passed now (OtherClient m) e = inl (by m.state e)
  where
    by : (s : OtherClientState) → is_passed (row_out (other_client s (input.Event event.Success))).pass ≡ true → other_awaits s ≡ true
    by other.Trying e = refl
    by other.Proceeding e = refl
    by other.Completed e = absurd cc
    by other.Terminated e = absurd cc

-- one that accepts it now waited, and hands it up
success_case : (now : ℕ) (c : ClientTransaction) → has_accepted (client_after event.Success now c) ≡ true
    → (has_accepted c ≡ true) ⊎ ((awaits c ≡ true) × (is_passed (client_out event.Success now c).pass ≡ true))
success_case now (InviteClient m) e = by m.state (sym (ap invite_accepted (state_after (invite_client m.state (input.Event event.Success)) now m)) ∙ e)
  where
    by : (s : InviteClientState) → invite_accepted (after (invite_client s (input.Event event.Success)) s) ≡ true
        → (invite_accepted s ≡ true) ⊎ ((invite_awaits s ≡ true) × (is_passed (row_out (invite_client s (input.Event event.Success))).pass ≡ true))
    by invite.Calling e = inr (refl, refl)
    by invite.Proceeding e = inr (refl, refl)
    by invite.Completed e = absurd cc
    by invite.Accepted e = inl refl
    by invite.Terminated e = absurd cc
success_case now (OtherClient m) e = absurd cc

not_both : (b : Bool) → b ≡ false → b ≡ true → ⊥
not_both true e h = absurd cc
not_both false e h = absurd cc

-- one that accepts it now waited, and hands up a 2xx
abbrev pub AcceptsBy : (status now : ℕ) → ClientTransaction → Type 0
AcceptsBy status now c =
    (awaits c ≡ true) × (nat_lt status 200 ≡ false) × (nat_lt status 300 ≡ true) × (is_passed (client_out (response_event status) now c).pass ≡ true)

response_case : (status now : ℕ) (c : ClientTransaction) → has_accepted (client_after (response_event status) now c) ≡ true → (has_accepted c ≡ true) ⊎ AcceptsBy status now c
response_case status now c e = by (nat_lt status 200) (nat_lt status 300) refl refl
  where
    P : TxEvent → Type 0
    P ev = has_accepted (client_after ev now c) ≡ true

    Q : TxEvent → Type 0
    Q ev = is_passed (client_out ev now c).pass ≡ true

    by : (a b : Bool) → nat_lt status 200 ≡ a → nat_lt status 300 ≡ b → (has_accepted c ≡ true) ⊎ AcceptsBy status now c
    by true b is also = inl (by_provisionals now c (subst P (cond-true _ _ _ is) e))
    by false true is also =
        let ev : response_event status ≡ event.Success = cond-false _ _ _ is ∙ cond-true _ _ _ also in
        elim (success_case now c (subst P ev e)) [
          | inl before ↦ inl before
          | inr made ↦ inr (made.0, is, also, subst Q (sym ev) made.1)
        ]
    by false false is also = inl (by_failures now c (subst P (cond-false _ _ _ is ∙ cond-false _ _ _ also) e))

-- ---- a step

module _ (now : ℕ) (call : Call) (input : Input) (new : Call) where
  -- branch n takes this failure now
  abbrev pub TakesFailure : ℕ → MessageText → Type 0
  TakesFailure n m = (source : Hop) × (input ≡ step.Take (to.Client n) m source) × (nat_lt (status_of m) 300 ≡ false)

  abbrev pub OwesAckNow : ℕ → List ℕ → Type 0
  OwesAckNow n bytes = (m : MessageText) × (destination : Destination) × TakesFailure n m × (slice_get call.destinations n ≡ Some destination) × (bytes ≡ spelling (ack_to call.opened destination n m))

  -- branch n, whose transaction waited, accepts a 2xx now, which is posted
  abbrev pub AcceptsNow : ℕ → Type 0
  AcceptsNow n =
      (branch : Branch)
      × (a : FinalAnswer)
      × (reply : Reply)
      × (nth_branch call n ≡ Some branch)
      × (awaits branch.client ≡ true)
      × (nat_lt a.status 300 ≡ true)
      × (new.log ≡ added call.log call_tag (fork.Answer n a) reply)

  -- what a part keeps, owes and has accepted it did before, or does by this step
  pub record Comes (n : ℕ) (branch : Branch) : Type 0 where
    pub answer : (m : MessageText) → branch.answer ≡ Some m → (answer_in (nth_branch call n) ≡ Some m) ⊎ TakesFailure n m
    pub ack : (bytes : List ℕ) → branch.ack ≡ Some bytes → (ack_in (nth_branch call n) ≡ Some bytes) ⊎ OwesAckNow n bytes
    pub client : has_accepted branch.client ≡ true → (accepted_in (nth_branch call n) ≡ true) ⊎ AcceptsNow n

  abbrev pub EachComes : Call → Type 0
  EachComes x = (n : ℕ) (branch : Branch) → nth_branch x n ≡ Some branch → Comes n branch

  pub record CallState : Type 0 where
    pub each : EachComes new
    pub opened : new.opened ≡ call.opened
    pub more : List Destination
    pub destinations : new.destinations ≡ call.destinations ++ more

  old : EachComes call
  old n branch there = record {
    answer = λ m is. inl (ap answer_in there ∙ is);
    ack = λ bytes is. inl (ap ack_in there ∙ is);
    client = λ is. inl (ap accepted_in there ∙ is);
  }

  -- it has accepted nothing that the other had not
  abbrev NoneMore : Branch → Branch → Type 0
  NoneMore branch l = has_accepted l.client ≡ true → has_accepted branch.client ≡ true

  like : (k : ℕ) (branch l : Branch) → nth_branch call k ≡ Some branch → l.answer ≡ branch.answer → l.ack ≡ branch.ack → NoneMore branch l → Comes k l
  like k branch l there a b c = record {
    answer = λ m is. inl (ap answer_in there ∙ sym a ∙ is);
    ack = λ bytes is. inl (ap ack_in there ∙ sym b ∙ is);
    client = λ is. inl (ap accepted_in there ∙ c is);
  }

  one : (k : ℕ) (l : Branch) → Comes k l → EachComes (set_branch call k l)
  one k l is n branch there = by (at_with call.branches k n l branch there)
    where
      by : ((n ≡ k) × (branch ≡ l)) ⊎ (found (slice_get call.branches n) ≡ Some branch) → Comes n branch
      by (inl p) =
          let P : ℕ → Type 0 = λ i. Comes i l in
          let Q : Branch → Type 0 = λ x. Comes n x in
          subst Q (sym p.1) (subst P (sym p.0) is)
      by (inr q) = old n branch q

  -- without an event
  stays : (x : Call) → new ≡ x → x.opened ≡ call.opened → x.destinations ≡ call.destinations → EachComes x → CallState
  stays x e f w each = record {
    each = let P : Call → Type 0 = λ c. EachComes c in subst P (sym e) each;
    opened = ap (λ (c : Call). c.opened) e ∙ f;
    more = [];
    destinations = ap (λ (c : Call). c.destinations) e ∙ w ∙ sym (append-nil call.destinations);
  }

  same : new ≡ call → CallState
  same e = stays call e refl refl old

  sets : (k : ℕ) (branch l : Branch) → nth_branch call k ≡ Some branch → l.answer ≡ branch.answer → l.ack ≡ branch.ack → NoneMore branch l → new ≡ set_branch call k l → CallState
  sets k branch l there a b c e = stays (set_branch call k l) e refl refl (one k l (like k branch l there a b c))

  -- with one
  grown : (mid : Call) (ev : Event) (contacts : List ContactText) (response : Option MessageText) (reply : Reply) → Posts mid ev contacts response reply new
      → mid.opened ≡ call.opened → mid.destinations ≡ call.destinations → EachComes mid → CallState
  grown mid ev contacts response reply posts f w each = record {
    each = λ n branch there.
        let L : Call → Type 0 = λ c. nth_branch c n ≡ Some branch in
        each n branch (at_more mid.branches _ n branch (subst L posts.follows there));
    opened = ap (λ (c : Call). c.opened) posts.follows ∙ f;
    more = destinations_of mid.opened contacts (rows_more mid.log (added mid.log call_tag ev reply));
    destinations = ap (λ (c : Call). c.destinations) posts.follows
        ∙ ap (λ (ws : List Destination). ws ++ destinations_of mid.opened contacts (rows_more mid.log (added mid.log call_tag ev reply))) w;
  }

  sets_grown : (k : ℕ) (branch l : Branch) → nth_branch call k ≡ Some branch → l.answer ≡ branch.answer → l.ack ≡ branch.ack → NoneMore branch l
      → (ev : Event) (contacts : List ContactText) (response : Option MessageText) (reply : Reply) → Posts (set_branch call k l) ev contacts response reply new → CallState
  sets_grown k branch l there a b c ev contacts response reply posts =
      grown (set_branch call k l) ev contacts response reply posts refl refl (one k l (like k branch l there a b c))

  -- ---- an action of the pump

  answered : (rest : List Owed) (m : MessageText) (b : Bool) (p : Pumped) → AnswersBy call now rest m b p new → CallState
  answered rest m true p (out, e) = stays _ e refl refl old
  answered rest m false p (out, e) = stays _ e refl refl old

  answered_with : (rest : List Owed) (o : Option MessageText) (p : Pumped) → AnswersWith call now rest o p new → CallState
  answered_with rest None p h = absurd h
  answered_with rest (Some m) p h = answered rest m _ p h

  paid : (owed : List Owed) (p : Pumped) → SendsAnswer call now owed p new → CallState
  paid [] p h = absurd h
  paid (server.Again ∷ rest) p (out, e) = stays _ e refl refl old
  paid (server.CancelOk cancel hop ∷ rest) p (out, e) = stays _ e refl refl old
  paid (server.Trying ∷ rest) p h = answered_with rest (answer_of call server.Trying) p h
  paid (server.Passed m ∷ rest) p h = answered_with rest (answer_of call (server.Passed m)) p h
  paid (server.Final choice ∷ rest) p h = answered_with rest (answer_of call (server.Final choice)) p h

  ticked : (n : ℕ) (destination : Destination) (branch : Branch) (b : Bool) (p : Pumped) → nth_branch call n ≡ Some branch → TicksClientBy call now n destination branch b p new → CallState
  ticked n destination branch true p there (out, reply, posts) = sets_grown n branch _ there refl refl (by_ticks now branch.client) _ _ _ reply posts
  ticked n destination branch false p there (out, e) = sets n branch _ there refl refl (by_ticks now branch.client) e

  fired : (n : ℕ) (branch : Branch) (b : Bool) (p : Pumped) → nth_branch call n ≡ Some branch → FiresTimerC call now n branch b p new → CallState
  fired n branch true p there (out, reply, posts) = sets_grown n branch _ there refl refl (by_stops now branch.client) _ _ _ reply posts
  fired n branch false p there (out, reply, posts) = sets_grown n branch _ there refl refl (λ is. is) _ _ _ reply posts

  fresh : (k : ℕ) (l : Branch) → l.answer ≡ None → l.ack ≡ None → has_accepted l.client ≡ false → Comes k l
  fresh k l a b c = record {
    answer = λ m is. absurd (let none : None ≡ Some m = sym a ∙ is in cc);
    ack = λ bytes is. absurd (let none : None ≡ Some bytes = sym b ∙ is in cc);
    client = λ is. absurd (let h : false ≡ true = sym c ∙ is in cc);
  }

  without_ack : (k : ℕ) (branch l : Branch) → nth_branch call k ≡ Some branch → l.answer ≡ branch.answer → l.ack ≡ None → NoneMore branch l → Comes k l
  without_ack k branch l there a b c = record {
    answer = λ m is. inl (ap answer_in there ∙ sym a ∙ is);
    ack = λ bytes is. absurd (let none : None ≡ Some bytes = sym b ∙ is in cc);
    client = λ is. inl (ap accepted_in there ∙ c is);
  }

  done : (action : Action) (p : Pumped) → Does call now action p new → CallState
  done (due.SendRequest n) p (destination, goes, (out, e)) = stays _ e refl refl (one n _ (fresh n _ refl refl (none_starts (kind_of call.opened) now _)))
  done (due.SendCancel n) p (destination, branch, goes, there, (out, e)) = sets n branch _ there refl refl (λ is. is) e
  done (due.SendAck n) p (destination, branch, goes, there, (ack, owes, out, e)) = stays _ e refl refl (one n _ (without_ack n branch _ there refl refl (λ is. is)))
  done due.SendAnswer p h = paid call.server.owed p h
  done due.TickServer p (out, e) = stays _ e refl refl old
  done (due.TickClient n) p (destination, branch, goes, there, h) = ticked n destination branch _ p there h
  done (due.TickCancel n) p (destination, branch, goes, there, (cancelling, has, out, e)) = sets n branch _ there refl refl (λ is. is) e
  done (due.FireTimerC n) p (branch, there, h) = fired n branch _ p there h
  done (due.GiveUp n) p (branch, there, (out, reply, posts)) = sets_grown n branch _ there refl refl (by_stops now branch.client) _ _ _ reply posts

  pumped : (p : Pumped) → Pumps call now p new → CallState
  pumped pump.Idle (idle, e) = same e
  pumped (pump.Send d) (action, is, h) = done action (pump.Send d) h
  pumped pump.Did (action, is, h) = done action pump.Did h

  -- ---- a message

  acked : (n : ℕ) (branch : Branch) (destination : Destination) (m : MessageText) (source : Hop) → input ≡ step.Take (to.Client n) m source
      → nth_branch call n ≡ Some branch → slice_get call.destinations n ≡ Some destination
      → (bytes : List ℕ) → (branch_after call n branch destination now m).ack ≡ Some bytes → (ack_in (nth_branch call n) ≡ Some bytes) ⊎ OwesAckNow n bytes
  acked n branch destination m source is there goes bytes e =
      elim (ack_case (client_out (response_event (status_of m)) now branch.client).send (spelling (ack_to call.opened destination n m)) bytes branch.ack e) [
        | inl before ↦ inl (ap ack_in there ∙ before)
        | inr made ↦ inr (m, destination, (source, is, failure_acked (status_of m) now branch.client made.0), goes, made.1)
      ]

  kept_case : (first : Bool) (status : ℕ) (m x : MessageText) (before : Option MessageText) → to.answer_kept first status m before ≡ Some x
      → (before ≡ Some x) ⊎ ((x ≡ m) × (nat_lt status 300 ≡ false))
  kept_case first status m x before e = by (nat_lt status 300) refl first e
    where
      by : (b : Bool) → nat_lt status 300 ≡ b → (f : Bool) → cond {A = Option MessageText} (nat_lt status 300) before (cond {A = Option MessageText} f (Some m) before) ≡ Some x
          → (before ≡ Some x) ⊎ ((x ≡ m) × (nat_lt status 300 ≡ false))
      by true is f e = inl (sym (cond-true _ _ _ is) ∙ e)
      by false is true e = inr ((let h : Some m ≡ Some x = sym (cond-false _ _ _ is) ∙ e in let s : x ≡ m = cc in s), is)
      by false is false e = inl (sym (cond-false _ _ _ is) ∙ e)

  responded : (n : ℕ) (branch : Branch) (destination : Destination) (m : MessageText) (source : Hop) (t : Taken) → input ≡ step.Take (to.Client n) m source
      → nth_branch call n ≡ Some branch → slice_get call.destinations n ≡ Some destination → Responds call n branch destination now m t new → CallState
  responded n branch destination m source to.Absorbed is there goes (p, e) =
      stays _ e refl refl (one n _ (record {
        answer = λ x has. inl (ap answer_in there ∙ has);
        ack = λ bytes has. acked n branch destination m source is there goes bytes has;
        client = λ has. elim (response_case (status_of m) now branch.client has) [
          | inl before ↦ inl (ap accepted_in there ∙ before)
          | inr made ↦ absurd (not_both _ p made.3)
        ];
      }))
  responded n branch destination m source (to.Posted at) is there goes (p, reply, placed, first, leads, posts) =
      grown _ _ _ _ reply posts refl refl (one n _ (record {
        answer = λ x has. elim (kept_case first (status_of m) m x branch.answer has) [
          | inl before ↦ inl (ap answer_in there ∙ before)
          | inr now_kept ↦
              let T : MessageText → Type 0 = λ y. TakesFailure n y in
              inr (subst T (sym now_kept.0) (source, is, now_kept.1))
        ];
        ack = λ bytes has. acked n branch destination m source is there goes bytes has;
        client = λ has. elim (response_case (status_of m) now branch.client has) [
          | inl before ↦ inl (ap accepted_in there ∙ before)
          | inr made ↦
              let a : FinalAnswer = record {
                status = status_of m;
                offers = map offer_of (contacts_for call.opened.tried (status_of m) m);
                challenges = challenges_by (status_of m) m;
              } in
              inr (branch, a, reply, there, made.0, made.2, ap (λ (x : Call). x.log) posts.follows ∙ ap (λ (ev : Event). added call.log call_tag ev reply) (cond-false _ _ _ made.1))
        ];
      }))
  responded n branch destination m source to.Full is there goes (p, f, e) = same e

  cancelled : (cancel : MessageText) (hop : Hop) (t : Taken) → CancelledBy call cancel hop t new → CallState
  cancelled cancel hop to.Absorbed (c, e) = stays _ e refl refl old
  cancelled cancel hop (to.Posted at) (c, reply, placed, posts) = grown _ _ _ _ reply posts refl refl old
  cancelled cancel hop to.Full h = absurd h

  took : (m : MessageText) (source : Hop) (r : to.MatchedTransaction) (t : Taken) → input ≡ step.Take r m source → TakesAs call now m source r t new → CallState
  took m source to.Server to.Absorbed is e = stays _ e refl refl old
  took m source to.Server (to.Posted at) is h = absurd h
  took m source to.Server to.Full is h = absurd h
  took m source to.ServerAck to.Absorbed is e = stays _ e refl refl old
  took m source to.ServerAck (to.Posted at) is h = absurd h
  took m source to.ServerAck to.Full is h = absurd h
  took m source to.ServerCancel t is (cancel, marked, by) = cancelled cancel _ t by
  took m source (to.Client n) t is (branch, destination, there, goes, h) = responded n branch destination m source t is there goes h
  took m source (to.CancelClient n) to.Absorbed is (branch, cancelling, there, has, e) = sets n branch _ there refl refl (λ is. is) e
  took m source (to.CancelClient n) (to.Posted at) is h = absurd h
  took m source (to.CancelClient n) to.Full is h = absurd h

  -- ---- a datagram that could not be sent

  faults : (n : ℕ) (branch : Branch) (b : Bool) → nth_branch call n ≡ Some branch → FaultsBy call now n branch b new → CallState
  faults n branch true there (reply, posts) = sets_grown n branch _ there refl refl (by_errors now branch.client) _ _ _ reply posts
  faults n branch false there e = sets n branch _ there refl refl (by_errors now branch.client) e

  faults_client : (n : ℕ) (l : Option Branch) → nth_branch call n ≡ l → FaultsClient call now n l new → CallState
  faults_client n None there e = same e
  faults_client n (Some branch) there h = faults n branch _ there h

  faults_cancel : (n : ℕ) (l : Option Branch) → nth_branch call n ≡ l → new ≡ cancel_faulted call now n l → CallState
  faults_cancel n None there e = same e
  faults_cancel n (Some branch) there e = sets n branch _ there (answer_same branch.cancelling) (ack_same branch.cancelling) (client_same branch.cancelling) e
    where
      answer_same : (c : Option CancelTransaction) → (faulted_cancel branch now c).answer ≡ branch.answer
      answer_same None = refl
      answer_same (Some cancelling) = refl

      ack_same : (c : Option CancelTransaction) → (faulted_cancel branch now c).ack ≡ branch.ack
      ack_same None = refl
      ack_same (Some cancelling) = refl

      client_same : (c : Option CancelTransaction) → NoneMore branch (faulted_cancel branch now c)
      client_same None = λ is. is
      client_same (Some cancelling) = λ is. is

  failed : (c : Cause) → Fails call now c new → CallState
  failed (cause.Request n) h = faults_client n (nth_branch call n) refl h
  failed (cause.Ack n) h = faults_client n (nth_branch call n) refl h
  failed (cause.Cancel n) e = faults_cancel n (nth_branch call n) refl e
  failed cause.Answer e = stays _ e refl refl old
  failed cause.CancelOk e = same e

pub state : (now : ℕ) (call : Call) (input : Input) (new : Call) (output : Output) → Step now call input new output → CallState now call input new
state now call (step.Take r m source) new (step.Took t) h = took now call (step.Take r m source) new m source r t refl h
state now call (step.Take r m source) new (step.Did p) h = absurd h
state now call (step.Take r m source) new step.Told h = absurd h
state now call step.Pump new (step.Took t) h = absurd h
state now call step.Pump new (step.Did p) h = pumped now call step.Pump new p h
state now call step.Pump new step.Told h = absurd h
state now call (step.Failed c) new (step.Took t) h = absurd h
state now call (step.Failed c) new (step.Did p) h = absurd h
state now call (step.Failed c) new step.Told h = failed now call (step.Failed c) new c h

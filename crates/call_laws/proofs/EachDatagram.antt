-- Each datagram that a run of a call sends is what its cause says, of that very run.
use Rattle.std.proofs.Common.{◌≡◌, ◌∙◌, ◌⊎◌, ◌++◌, ◌∷◌, ℕ, zero, suc, Bool, true, false, List, [], length, map, Option, Some, None, ap, refl, sym, subst, inl, inr, slice_get, append-nil, append_assoc}
use Rattle.std.specs.List.{AllByRecursion}
use Rattle.fork_model.specs.Choice.{Choice}
use Rattle.fork_model.specs.History.{Target}
use Rattle.fork_model.specs.Log.{opening_log, table_of}
use Rattle.fork_model.specs.Steps.{BranchesGoOn, RowsKeepTheirNumbers}
use Rattle.fork_model.specs.Event.{TimerC}
use Rattle.fork_model.specs.ExactlyOne.{ExactlyOneFinal, NoFinalBefore, NoFinalBesideSuccess}
use Rattle.fork_model.specs.Table as table
use Rattle.fork_model.specs.Table.{Kind, Row, Rules}
use Rattle.sip_text.specs.Text.{MessageText, spelling}
use Rattle.call_model.specs.declared.cause.Cause.{Cause}
use Rattle.call_model.specs.declared.cause.Cause.TheVariants as cause
use Rattle.call_model.specs.Again.{LastAnswerIsKept, RepeatsAreTheSame, Sends, is_repeated}
use Rattle.call_model.specs.Branch.{Branch, CancelTransaction}
use Rattle.call_model.specs.Built.{Datagram, answer_of, cancel_to, final_of, request_to}
use Rattle.call_model.specs.Call.{Call, found, nth_branch, owes_cancel}
use Rattle.call_model.specs.ClosedBy.{BegunKnowsClosing, ClosingStaysOrComes, StepsKnowClosing}
use Rattle.call_model.specs.Datagrams.{BegunIsBuilt, ToBranch}
use Rattle.call_model.specs.Due.{Action, is_due_at}
use Rattle.call_model.specs.Due as due
use Rattle.call_model.specs.OpenedRequest.{OpenedRequest, Destination, kind_of}
use Rattle.call_model.specs.Parts.{FiringsEndOrCancel, StepsKeepParts, cancel_kept, cancel_sent}
use Rattle.call_model.specs.Pump as pump
use Rattle.call_model.specs.Pump.{AnswersBy, AnswersWith, Does, FiresTimerC, Pumps, SendsAnswer, TicksClientBy, cancel_bytes, reasons_of, sent_if}
use Rattle.call_model.specs.Server as server
use Rattle.call_model.specs.Server.{Owed, first_owed}
use Rattle.call_model.specs.Posting.{no_branch}
use Rattle.call_model.specs.Sound.{BegunIsSound, IsGiven, IsSoundOwed, StepsKeepSound}
use Rattle.call_model.specs.Step as step
use Rattle.call_model.specs.Step.{Run, Step, Turn}
use Rattle.std.specs.Option.{option_map}
use Rattle.call_laws.specs.Answers.{AreGiven, Begins}
use Rattle.call_laws.specs.EachDatagram.{EachDatagramIsRight, Final, IsAckAfter, IsAnswerAfter, IsOkayAfter, IsSentAfter, Passed, Repeated, Trying, turns_of}
use Rattle.call_laws.specs.Right.{BegunStands, StepsStand}
use Rattle.call_laws.specs.Sending.{IsAnswerOf, IsSentFor, WhatIsSentIsRight}
use Rattle.call_laws.specs.Stages.{Leads, Stage, end_of}
use Rattle.call_laws.specs.WhyCancelled.{IsCancelAfter, MadeNow, SentAgain, TimerCFired, WasSentBefore}
use Rattle.call_laws.proofs.Acks.{PaysAck, pays_ack}
use Rattle.call_laws.proofs.Content.{final_content}
use Rattle.call_laws.proofs.InRun.{HasCome, InRun, after_step, says_why, turns_added}
use Rattle.call_laws.proofs.Cancelled.{opening_none}
use Rattle.call_laws.proofs.Running.{Holds, first, one_step}

-- ---- a CANCEL that is sent: it was owed, or is kept

abbrev IsOwedOrKept : Call → ℕ → Datagram → Type 0
IsOwedOrKept call n d =
    (destination : Destination)
    × (branch : Branch)
    × (slice_get call.destinations n ≡ Some destination)
    × (nth_branch call n ≡ Some branch)
    × (((owes_cancel call n ≡ true) × (d.bytes ≡ cancel_bytes call n destination)) ⊎ (cancel_kept branch ≡ Some d.bytes))

the_same : (d e : Datagram) → pump.Send d ≡ pump.Send e → d ≡ e
the_same d e h = cc

sent_same : (b : Bool) (d e : Datagram) → pump.Send d ≡ sent_if b e → d ≡ e
sent_same true d e h = the_same d e h
sent_same false d e h = absurd cc

-- the branch that a CANCEL is for
abbrev cancelled_at : Cause → Option ℕ
cancelled_at (cause.Cancel n) = Some n
cancelled_at (cause.Request n) = None
cancelled_at (cause.Ack n) = None
cancelled_at cause.Answer = None
cancelled_at cause.CancelOk = None

no_cancel : (n : ℕ) (d e : Datagram) → d ≡ e → cancelled_at e.cause ≡ None → d.cause ≡ cause.Cancel n → ⊥
no_cancel n d e same none is = let h : Some n ≡ None = ap cancelled_at (sym is) ∙ ap (λ (x : Datagram). cancelled_at x.cause) same ∙ none in absurd cc

module _ (call new : Call) (now n : ℕ) (d : Datagram) (is : d.cause ≡ cause.Cancel n) where
  abbrev Found : Type 0
  Found = IsOwedOrKept call n d

  answered : (rest : List Owed) (m : MessageText) (b : Bool) → AnswersBy call now rest m b (pump.Send d) new → Found
  answered rest m true (out, e) = absurd (no_cancel n d _ (the_same d _ out) refl is)
  answered rest m false (out, e) = absurd (let h = out in cc)

  answered_with : (rest : List Owed) (o : Option MessageText) → AnswersWith call now rest o (pump.Send d) new → Found
  answered_with rest None h = absurd h
  answered_with rest (Some m) h = answered rest m _ h

  paid : (owed : List Owed) → SendsAnswer call now owed (pump.Send d) new → Found
  paid [] h = absurd h
  paid (server.Again ∷ rest) (out, e) = absurd (no_cancel n d _ (the_same d _ out) refl is)
  paid (server.CancelOk cancel hop ∷ rest) (out, e) = absurd (no_cancel n d _ (the_same d _ out) refl is)
  paid (server.Trying ∷ rest) h = answered_with rest (answer_of call server.Trying) h
  paid (server.Passed m ∷ rest) h = answered_with rest (answer_of call (server.Passed m)) h
  paid (server.Final choice ∷ rest) h = answered_with rest (answer_of call (server.Final choice)) h

  ticked : (k : ℕ) (destination : Destination) (branch : Branch) (b : Bool) → TicksClientBy call now k destination branch b (pump.Send d) new → Found
  ticked k destination branch true (out, r, h) = absurd (let e = out in cc)
  ticked k destination branch false (out, e) = absurd (no_cancel n d _ (sent_same _ d _ out) refl is)

  fired : (k : ℕ) (branch : Branch) (b : Bool) → FiresTimerC call now k branch b (pump.Send d) new → Found
  fired k branch true (out, r, h) = absurd (let e = out in cc)
  fired k branch false (out, r, h) = absurd (let e = out in cc)

  -- the number that the action has is that of the cause
  at_number : (k : ℕ) (e : Datagram) → d ≡ e → e.cause ≡ cause.Cancel k → k ≡ n
  at_number k e same why = let h : cause.Cancel k ≡ cause.Cancel n = sym why ∙ ap (λ (x : Datagram). x.cause) (sym same) ∙ is in cc

  done : (action : Action) → is_due_at call now action ≡ true → Does call now action (pump.Send d) new → Found
  done (due.SendRequest k) owed (destination, goes, (out, e)) = absurd (no_cancel n d _ (the_same d _ out) refl is)
  done (due.SendCancel k) owed (destination, branch, goes, there, (out, e)) =
      let F : ℕ → Type 0 = λ i. IsOwedOrKept call i d in
      subst F (at_number k _ (the_same d _ out) refl) (destination, branch, goes, there, inl (owed, ap (λ (x : Datagram). x.bytes) (the_same d _ out)))
  done (due.SendAck k) owed (destination, branch, goes, there, (ack, has, out, e)) = absurd (no_cancel n d _ (the_same d _ out) refl is)
  done due.SendAnswer owed h = paid call.server.owed h
  done due.TickServer owed (out, e) = absurd (no_cancel n d _ (sent_same _ d _ out) refl is)
  done (due.TickClient k) owed (destination, branch, goes, there, h) = ticked k destination branch _ h
  done (due.TickCancel k) owed (destination, branch, goes, there, (cancelling, has, out, e)) =
      let F : ℕ → Type 0 = λ i. IsOwedOrKept call i d in
      subst F (at_number k _ (sent_same _ d _ out) refl) (
        destination,
        branch,
        goes,
        there,
        inr (ap (λ (c : Option CancelTransaction). option_map cancel_sent c) has ∙ ap (λ (x : Datagram). Some x.bytes) (sym (sent_same _ d _ out))),
      )
  done (due.FireTimerC k) owed (branch, there, h) = fired k branch _ h
  done (due.GiveUp k) owed (branch, there, (out, r, h)) = absurd (let e = out in cc)

-- ---- a run of turns

run_of : (call : Call) (stages : List Stage) → Leads call stages → Run call (turns_of stages) (end_of call stages)
run_of call [] leads = refl
run_of call (stage ∷ stages) leads = (stage.call, leads.0, run_of stage.call stages leads.1)

leads_front : (call : Call) (before : List Stage) (stage : Stage) (later : List Stage) → Leads call (before ++ stage ∷ later) → Leads call (before ++ stage ∷ [])
leads_front call [] stage later leads = (leads.0, tt)
leads_front call (x ∷ before) stage later leads = (leads.0, leads_front x.call before stage later leads.1)

more_there : {X : Type 0} (xs ys : List X) (k : ℕ) (x : X) → slice_get xs k ≡ Some x → slice_get (xs ++ ys) k ≡ Some x
more_there [] ys k x e = absurd cc
more_there (y ∷ xs) ys zero x e = e
more_there (y ∷ xs) ys (suc k) x e = more_there xs ys k x e

last_there : {X : Type 0} (xs : List X) (x : X) → slice_get (xs ++ x ∷ []) (length xs) ≡ Some x
last_there [] x = refl
last_there (y ∷ xs) x = last_there xs x

some_same : {A : Type 0} (a b : A) → Some a ≡ Some b → a ≡ b
some_same a b e = cc

-- ---- one datagram

module _ (what : WhatIsSentIsRight) (begin call : Call) (stages : List Stage) (stage : Stage) (run : InRun begin stages call) (d : Datagram) where
  -- what comes before the parts of what is owed first
  head_owed : (P : Owed → Type 0) (owed : Owed) (rest : List Owed) → call.server.owed ≡ owed ∷ rest → AllByRecursion P call.server.owed → P owed
  head_owed P owed rest is all = let A : List Owed → Type 0 = λ os. AllByRecursion P os in (subst A is all).0

  -- an answer, as the call has it
  answer_right : IsAnswerOf call d.bytes → IsAnswerAfter (turns_of stages) call d.bytes
  answer_right (inl (same, some)) = Repeated (same ∙ run.last) some
  answer_right (inr (owed, rest, m, is, made, spelled)) = by owed is made
    where
      as_spelled : (x : MessageText) → Some x ≡ Some m → d.bytes ≡ spelling x
      as_spelled x e = spelled ∙ ap spelling (sym (some_same x m e))

      by : (o : Owed) → call.server.owed ≡ o ∷ rest → answer_of call o ≡ Some m → IsAnswerAfter (turns_of stages) call d.bytes
      by server.Trying is e = Trying (as_spelled _ e)
      by (server.Passed r) is e =
          let c = head_owed (HasCome (turns_of stages)) (server.Passed r) rest is run.come in
          Passed c.0 c.1 r c.2 c.3 (as_spelled _ e)
      by (server.Final choice) is e =
          let chosen = head_owed (IsSoundOwed (table_of call.log)) (server.Final choice) rest is run.holds.sound.owed in
          Final choice (final_of call choice) chosen (final_content (turns_of stages) call run.holds.stands.answers run.holds.stands.origins.posted choice chosen) (as_spelled _ e)
      by server.Again is e = absurd cc
      by (server.CancelOk cancel hop) is e = absurd cc

  abbrev AtEnd : Call → Cause → Type 0
  AtEnd c (cause.Request n) = ToBranch c n d (λ destination. d.bytes ≡ spelling (request_to begin.opened destination n))
  AtEnd c (cause.Cancel n) = ToBranch c n d (λ destination. IsCancelAfter begin stages n destination d.bytes)
  AtEnd c (cause.Ack n) = ToBranch c n d (λ destination. IsAckAfter begin stages n destination d.bytes)
  AtEnd c cause.Answer = (d.to ≡ begin.opened.caller) × IsAnswerAfter (turns_of stages) c d.bytes
  AtEnd c cause.CancelOk = IsOkayAfter (turns_of stages) d

  at_end : (c : Cause) → AtEnd (end_of begin stages) c → IsSentAfter begin stages d c
  at_end (cause.Request n) h = h
  at_end (cause.Cancel n) h = h
  at_end (cause.Ack n) h = h
  at_end cause.Answer h = h
  at_end cause.CancelOk h = h

  cancel_right : (n : ℕ) → IsSentFor (turns_of stages) call d (cause.Cancel n) → IsOwedOrKept call n d → AtEnd call (cause.Cancel n)
  cancel_right n (w, at, hop, is) (destination, branch, goes, there, which) = (w, at, hop, by which)
    where
      same : destination ≡ w
      same = some_same destination w (sym goes ∙ at)

      by : ((owes_cancel call n ≡ true) × (d.bytes ≡ cancel_bytes call n destination)) ⊎ (cancel_kept branch ≡ Some d.bytes) → IsCancelAfter begin stages n w d.bytes
      by (inl (owed, bytes)) = MadeNow (record {
        reasons = reasons_of call n;
        why = says_why begin call stages n branch run there owed;
        made = bytes ∙ ap (λ (x : Destination). cancel_bytes call n x) same
            ∙ ap (λ (o : OpenedRequest). spelling (cancel_to o w n (reasons_of call n))) run.opened;
      })
      by (inr kept) =
          let c = run.cancels n branch d.bytes there kept in
          let one : c.0 ≡ w = some_same c.0 w (sym c.1 ∙ at) in
          let P : Destination → Type 0 = λ x. WasSentBefore begin stages n x d.bytes in
          SentAgain (subst P one c.2)

  by_cause : (c : Cause) → IsSentFor (turns_of stages) call d c → ((n : ℕ) → c ≡ cause.Cancel n → IsOwedOrKept call n d) → ((n : ℕ) → c ≡ cause.Ack n → PaysAck call stage.call n d) → AtEnd call c
  by_cause (cause.Request n) (w, at, hop, text) cancels acks = (w, at, hop, text ∙ ap (λ (o : OpenedRequest). spelling (request_to o w n)) run.opened)
  by_cause (cause.Cancel n) right cancels acks = cancel_right n right (cancels n refl)
  by_cause (cause.Ack n) (w, at, hop, answers) cancels acks =
      let paid = acks n refl in
      let a = run.acks n paid.0 d.bytes paid.1 paid.2 in
      let same : a.0 ≡ w = some_same a.0 w (sym a.1 ∙ at) in
      let P : Destination → Type 0 = λ x. IsAckAfter begin stages n x d.bytes in
      (w, at, hop, subst P same a.2)
  by_cause cause.Answer (to, answer) cancels acks = (to ∙ ap (λ (o : OpenedRequest). o.caller) run.opened, answer_right answer)
  by_cause cause.CancelOk (cancel, rest, owed, came, text) cancels acks = (cancel, came, text)

  -- a turn that sends a datagram is a pump
  pumps : (now : ℕ) (input : step.Input) (new : Call) → Step now call input new (step.Did (pump.Send d)) → Step now call step.Pump new (step.Did (pump.Send d))
  pumps now (step.Take r m source) new h = absurd h
  pumps now step.Pump new h = h
  pumps now (step.Failed c) new h = absurd h

  pub sent_right : Step stage.turn.now call stage.turn.input stage.call (step.Did (pump.Send d)) → IsSentAfter begin stages d d.cause
  sent_right h =
      let p = pumps stage.turn.now stage.turn.input stage.call h in
      let right = what (turns_of stages) run.handed stage.turn.now call stage.call (pump.Send d) run.holds.stands p in
      let C : Call → Type 0 = λ c. AtEnd c d.cause in
      at_end d.cause (subst C (sym run.ends) (by_cause d.cause right (λ n is. done call stage.call stage.turn.now n d is p.0 p.1 p.2) (λ n is. pays_ack stage.turn.now call step.Pump stage.call n d is p)))

-- ---- over a run

module _ (steps_hold : (turns : List Turn) (handed : List Choice) (call : Call) (stage : Stage) → Holds turns handed call → Step stage.turn.now call stage.turn.input stage.call stage.turn.output
    → IsGiven stage.turn.input → (more : List Choice) × Holds (turns ++ stage.turn ∷ []) more stage.call)
    (know : StepsKnowClosing) (comes : ClosingStaysOrComes) (last_kept : LastAnswerIsKept) (keep : StepsKeepParts) (firing : FiringsEndOrCancel) (rows_grow : RowsKeepTheirNumbers) (goes_on : BranchesGoOn) (begin : Call) where
  -- to this stage
  run_to : (before : List Stage) (stage : Stage) (later : List Stage) (stages : List Stage) (call : Call) → InRun begin stages call → AreGiven (before ++ stage ∷ later) → Leads call (before ++ stage ∷ later)
      → InRun begin (stages ++ before) (end_of call before) × Step stage.turn.now (end_of call before) stage.turn.input stage.call stage.turn.output
  run_to [] stage later stages call run given leads =
      let R : List Stage → Type 0 = λ ss. InRun begin ss call in
      (subst R (sym (append-nil stages)) run, leads.0)
  run_to (x ∷ before) stage later stages call run given leads =
      let held = steps_hold (turns_of stages) run.handed call x run.holds leads.0 given.0 in
      let next = after_step know comes last_kept keep firing rows_grow goes_on begin call stages x run leads.0 held.0 held.1 in
      let rest = run_to before stage later (stages ++ x ∷ []) x.call next given.1 leads.1 in
      let R : List Stage → Type 0 = λ ss. InRun begin ss (end_of x.call before) in
      (subst R (append_assoc stages (x ∷ []) before) rest.0, rest.1)

-- ---- from its beginning

no_part : (rows : List Row) (n : ℕ) (branch : Branch) → found (slice_get (map no_branch rows) n) ≡ Some branch → ⊥
no_part [] n branch e = absurd cc
no_part (row ∷ rows) zero branch e = absurd cc
no_part (row ∷ rows) (suc n) branch e = no_part rows n branch e

none_fired : (opened : OpenedRequest) (rules : Rules) (targets : List Target) (destinations : List Destination) (n : ℕ) → TimerCFired (Begins opened rules targets destinations) n → ⊥
none_fired opened rules targets destinations n (at, is) = absurd (let e : None ≡ Some (TimerC n) = is in cc)

first_come : (kind : Kind) → AllByRecursion (HasCome []) (first_owed kind)
first_come table.Invite = (tt, tt)
first_come table.Other = tt

never_true : false ≡ true → ⊥
never_true e = absurd cc

begins : BegunKnowsClosing → (opened : OpenedRequest) (rules : Rules) (targets : List Target) (destinations : List Destination) → Holds [] [] (Begins opened rules targets destinations)
    → InRun (Begins opened rules targets destinations) [] (Begins opened rules targets destinations)
begins knows opened rules targets destinations holds = record {
  ends = refl;
  handed = [];
  holds = holds;
  opened = refl;
  targets = λ n destination at. at;
  knows = knows opened rules targets destinations;
  closed = λ e. absurd (never_true e);
  fired = λ invite n branch there none. absurd (no_part _ n branch there);
  firings = λ n fired. absurd (none_fired opened rules targets destinations n fired);
  cancelled = λ n e. absurd (never_true (sym (opening_none targets n) ∙ e));
  cancels = λ n branch bytes there kept. absurd (no_part _ n branch there);
  acks = λ n branch bytes there owed. absurd (no_part _ n branch there);
  last = refl;
  come = first_come (kind_of opened);
}

module _ (one : ExactlyOneFinal) (before_it : NoFinalBefore) (beside : NoFinalBesideSuccess) (sound : StepsKeepSound) (stand : StepsStand) (begun_sound : BegunIsSound) (begun_stand : BegunStands)
    (begun_knows : BegunKnowsClosing) (begun_built : BegunIsBuilt) (know : StepsKnowClosing) (comes : ClosingStaysOrComes) (same : RepeatsAreTheSame) (last_kept : LastAnswerIsKept)
    (keep : StepsKeepParts) (firing : FiringsEndOrCancel) (rows_grow : RowsKeepTheirNumbers) (goes_on : BranchesGoOn) (what : WhatIsSentIsRight) where
  steps_hold : (turns : List Turn) (handed : List Choice) (call : Call) (stage : Stage) → Holds turns handed call → Step stage.turn.now call stage.turn.input stage.call stage.turn.output
      → IsGiven stage.turn.input → (more : List Choice) × Holds (turns ++ stage.turn ∷ []) more stage.call
  steps_hold turns handed call stage holds goes given = (_, one_step one before_it beside sound stand turns handed call stage holds goes given)

  pub each_right : EachDatagramIsRight
  each_right opened rules targets destinations before stage later d some given leads out = record {
    is = is;
    targets = λ n destination at. ap (λ (c : Call). slice_get c.destinations n) run.0.ends ∙ run.0.targets n destination at;
    repeats = repeats;
  }
    where
      begin : Call
      begin = Begins opened rules targets destinations

      run : InRun begin before (end_of begin before) × Step stage.turn.now (end_of begin before) stage.turn.input stage.call stage.turn.output
      run =
          run_to steps_hold know comes last_kept keep firing rows_grow goes_on begin before stage later [] begin
          (begins begun_knows opened rules targets destinations (first one before_it beside sound stand begun_sound begun_stand opened rules targets destinations some)) given leads

      is : IsSentAfter begin before d d.cause
      is =
          let S : step.Output → Type 0 = λ o. Step stage.turn.now (end_of begin before) stage.turn.input stage.call o in
          sent_right what begin (end_of begin before) before stage run.0 d (subst S out run.1)

      all : List Turn
      all = turns_of (before ++ stage ∷ [])

      earlier_there : (e : Datagram) → Sends (turns_of before) e → Sends all e
      earlier_there e (place, turn, at, sends) =
          (place, turn, ap (λ (ts : List Turn). slice_get ts place) (turns_added before stage) ∙ more_there (turns_of before) (stage.turn ∷ []) place turn at, sends)

      this_there : Sends all d
      this_there =
          (length (turns_of before), stage.turn, ap (λ (ts : List Turn). slice_get ts (length (turns_of before))) (turns_added before stage) ∙ last_there (turns_of before) stage.turn, out)

      repeats : (earlier : Datagram) → Sends (turns_of before) earlier → is_repeated d.cause ≡ true → earlier.cause ≡ d.cause → d ≡ earlier
      repeats earlier sends repeated why =
          same begin (end_of begin (before ++ stage ∷ [])) all earlier d (begun_built opened (opening_log (kind_of opened) rules targets) destinations)
          (run_of begin (before ++ stage ∷ []) (leads_front begin before stage later leads)) (earlier_there earlier sends) this_there (ap is_repeated why ∙ repeated) (sym why)

-- What a call answers its caller over a run.
use Rattle.std.proofs.Common.{◌≡◌, ◌≢◌, ◌∙◌, ◌++◌, ◌∷◌, ℕ, Bool, true, false, List, [], filter, map, not, Some, ap, refl, sym, subst, inl, inr, nat_lt, append-nil, append_assoc, cond}
use Rattle.std.proofs.lemmas.Bool.{and_from, and_parts, not_from_false, not-true}
use Rattle.std.specs.List.{AllByRecursion}
use Rattle.fork_model.specs.Choice.{Choice}
use Rattle.fork_model.specs.Chosen.{is_due}
use Rattle.fork_model.specs.ExactlyOne.{ExactlyOneFinal, NoFinalBefore, NoFinalBesideSuccess}
use Rattle.fork_model.specs.History.{Target, finals}
use Rattle.fork_model.specs.Log.{IsLog, table_of}
use Rattle.fork_model.specs.Table.{Row, Rules, is_finished, is_succeeded}
use Rattle.sip_text.specs.Text.{MessageText, spelling}
use Rattle.call_model.specs.Built.{answer_of, final_of, status_of}
use Rattle.call_model.specs.Call.{Call, rows_of}
use Rattle.call_model.specs.OpenedRequest.{OpenedRequest, Destination, is_invite, kind_of}
use Rattle.call_model.specs.Pump as pump
use Rattle.call_model.specs.Server as server
use Rattle.call_model.specs.Server.{Owed, ServerTransaction, InviteServer, OtherServer, answer_event, is_over, served_out}
use Rattle.call_model.specs.Sound.{BegunIsSound, IsGiven, IsSound, IsSoundOwed, StepsKeepSound}
use Rattle.call_model.specs.Step as step
use Rattle.call_model.specs.Step.{Step, Turn}
use Rattle.call_model.specs.Take.{is_response}
use Rattle.call_laws.specs.Answers.{AnswersOnce, AreGiven, Begins, GivesFinal, IsPaidAs, IsPaidRight, PaysInOrder, is_final, is_final_payment}
use Rattle.call_laws.specs.Finals.{Awaits, CouldNotSend, MayBeOwed, finals_owed, is_for_invite, is_success, takes, waits}
use Rattle.call_laws.specs.Origins.{IsOkayOf}
use Rattle.call_laws.specs.Right.{StandsAfter, StepsStand, BegunStands, finals_paid}
use Rattle.call_laws.specs.Stages.{Leads, Payment, Stage, end_of, owed_new, owed_of, owed_since, paid_at, payments}
use Rattle.call_laws.proofs.Content.{final_content}
use Rattle.call_laws.proofs.Finals.{below, final_failure, owed_more, some_same}
use Rattle.call_laws.proofs.Logged.{AtMostOne, at_most_one, ends_once, log_more, none_of_succeeded, opening_logged}
use Rattle.call_laws.proofs.Paying.{grows_paid, less_paid, owed_is, owing, payment_at}
use Rattle.call_laws.proofs.Serving.{Serves, Beside, Posted, Cancelled, CancelledBoth, Acked, Faulted, Ticked, Repeated, Sent, Dropped, Again, Okayed, sent_to, serves}
use Rattle.call_laws.proofs.Waits.{dropped_takes, failure_sent, has_ended}
use Rattle.call_laws.proofs.Accepted.{success_parts}

-- ---- what holds of each call of a run

pub record Holds (turns : List Turn) (handed : List Choice) (call : Call) : Type 0 where
  pub sound : IsSound call
  pub log : IsLog call.log
  pub stands : StandsAfter turns handed call

-- ---- lists

only_first : (xs ys : List Choice) (c d : Choice) → xs ++ c ∷ ys ≡ d ∷ [] → xs ≡ []
only_first [] ys c d e = refl
only_first (x ∷ []) ys c d e = absurd cc
only_first (x ∷ y ∷ xs) ys c d e = absurd cc

never_none : (xs ys : List Choice) (c : Choice) → xs ++ c ∷ ys ≡ [] → ⊥
never_none [] ys c e = absurd cc
never_none (x ∷ xs) ys c e = absurd cc

none_handed : (handed rest all : List Choice) (c : Choice) → AtMostOne all → all ≡ handed ++ c ∷ rest → handed ≡ []
none_handed handed rest all c (inl none) e = absurd (never_none handed rest c (sym e ∙ none))
none_handed handed rest all c (inr (d, is)) e = only_first handed rest c d (sym e ∙ is)

owed_joined : (ps qs : List Payment) → map owed_of (ps ++ qs) ≡ map owed_of ps ++ map owed_of qs
owed_joined [] qs = refl
owed_joined (p ∷ ps) qs = ap (λ (os : List Owed). owed_of p ∷ os) (owed_joined ps qs)

all_joined : (P : Payment → Type 0) (xs ys : List Payment) → AllByRecursion P xs → AllByRecursion P ys → AllByRecursion P (xs ++ ys)
all_joined P [] ys h k = k
all_joined P (x ∷ xs) ys h k = (h.0, all_joined P xs ys h.1 k)

no_finals : (ps : List Payment) → finals_paid ps ≡ [] → filter is_final_payment ps ≡ []
no_finals [] e = refl
no_finals (p ∷ ps) e = by p.owed refl e (λ f. no_finals ps f)
  where
    other : is_final p.owed ≡ false → filter is_final_payment ps ≡ [] → filter is_final_payment (p ∷ ps) ≡ []
    other not_final f = ap (λ (x : Bool). cond {A = List Payment} x (p ∷ filter is_final_payment ps) (filter is_final_payment ps)) not_final ∙ f

    by : (o : Owed) → p.owed ≡ o → finals_owed (o ∷ map owed_of ps) ≡ [] → (finals_paid ps ≡ [] → filter is_final_payment ps ≡ []) → filter is_final_payment (p ∷ ps) ≡ []
    by server.Trying is e rest = other (ap is_final is) (rest e)
    by (server.Passed m) is e rest = other (ap is_final is) (rest e)
    by (server.Final c) is e rest = absurd cc
    by server.Again is e rest = other (ap is_final is) (rest e)
    by (server.CancelOk cancel to) is e rest = other (ap is_final is) (rest e)

is_due_of : (rows : List Row) → is_finished rows ≡ true → is_succeeded rows ≡ false → is_due rows ≡ true
is_due_of rows done not_won = and_from (is_finished rows) (not (is_succeeded rows)) done (not_from_false (is_succeeded rows) not_won)

-- ---- the final answer

module _ (one : ExactlyOneFinal) (before : NoFinalBefore) (beside : NoFinalBesideSuccess) (turns : List Turn) (handed : List Choice) (call : Call) (holds : Holds turns handed call) where
  head_sound : (owed : Owed) (rest : List Owed) → call.server.owed ≡ owed ∷ rest → IsSoundOwed (table_of call.log) owed
  head_sound owed rest is = let A : List Owed → Type 0 = λ os. AllByRecursion (IsSoundOwed (table_of call.log)) os in (subst A is holds.sound.owed).0

  head_okay : (owed : Owed) (rest : List Owed) → call.server.owed ≡ owed ∷ rest → IsOkayOf turns owed
  head_okay owed rest is = let A : List Owed → Type 0 = λ os. AllByRecursion (IsOkayOf turns) os in (subst A is holds.stands.origins.okays).0

  -- none was handed before, and the transaction waits for it
  waits_for : (choice : Choice) (rest : List Owed) → call.server.owed ≡ server.Final choice ∷ rest → Awaits turns call.server.machine
  waits_for choice rest is =
      let chosen = head_sound (server.Final choice) rest is in
      let all : finals call.log.replies ≡ handed ++ choice ∷ finals_owed rest = holds.stands.finals.all ∙ ap (λ (os : List Owed). handed ++ finals_owed os) is in
      let none = none_handed handed (finals_owed rest) (finals call.log.replies) choice (at_most_one one before beside call.log holds.log) all in
      let due = and_parts (is_finished (rows_of call)) (not (is_succeeded (rows_of call))) chosen.0 in
      holds.stands.finals.waiting none (not-true (is_succeeded (rows_of call)) due.1)

  -- so where it is dropped the transaction was told before that an answer could not be sent
  dropped_so : (status now : ℕ) → nat_lt status 300 ≡ false → is_response (served_out (answer_event status) now call.server.machine).send ≡ false
      → Awaits turns call.server.machine → (is_invite call.opened ≡ false) × CouldNotSend turns
  dropped_so status now failure drops awaits = by call.server.machine refl awaits
    where
      never : waits call.server.machine ≡ true → ⊥
      never w =
          let h : true ≡ false = sym (failure_sent status now call.server.machine (below status failure) failure w) ∙ drops in
          absurd cc

      by : (machine : ServerTransaction) → call.server.machine ≡ machine → Awaits turns machine → (is_invite call.opened ≡ false) × CouldNotSend turns
      by (InviteServer m) is w = absurd (never (ap waits is ∙ w))
      by (OtherServer m) is (inl w) = absurd (never (ap waits is ∙ w))
      by (OtherServer m) is (inr (ended, failed)) = (sym holds.stands.finals.side ∙ ap is_for_invite is, failed)

  gives_sent : (choice : Choice) (rest : List Owed) (m : MessageText) (output : step.Output) → call.server.owed ≡ server.Final choice ∷ rest
      → answer_of call (server.Final choice) ≡ Some m → output ≡ sent_to call (spelling m) → GivesFinal (payment_at turns call (server.Final choice) output) choice
  gives_sent choice rest m output is made out =
      let same = some_same _ _ made in (
        final_of call choice,
        final_content turns call holds.stands.answers holds.stands.origins.posted choice (head_sound (server.Final choice) rest is),
        inl (out ∙ ap (λ (x : MessageText). sent_to call (spelling x)) (sym same)),
      )

  gives_dropped : (choice : Choice) (rest : List Owed) (m : MessageText) (now : ℕ) (output : step.Output) → call.server.owed ≡ server.Final choice ∷ rest
      → answer_of call (server.Final choice) ≡ Some m → is_response (served_out (answer_event (status_of m)) now call.server.machine).send ≡ false
      → output ≡ step.Did pump.Did → GivesFinal (payment_at turns call (server.Final choice) output) choice
  gives_dropped choice rest m now output is made drops out =
      let same = some_same _ _ made in
      let failure : nat_lt (status_of m) 300 ≡ false =
      ap (λ (x : MessageText). nat_lt (status_of x) 300) (sym same) ∙ final_failure turns call holds.stands.origins.answers choice in
      let told = dropped_so (status_of m) now failure drops (waits_for choice rest is) in (
        final_of call choice,
        final_content turns call holds.stands.answers holds.stands.origins.posted choice (head_sound (server.Final choice) rest is),
        inr (out, told.0, told.1),
      )

  -- a 2xx to an INVITE that the caller's transaction does not take comes to one that has ended
  ended_so : (x : MessageText) (rest : List Owed) → call.server.owed ≡ server.Passed x ∷ rest → is_invite call.opened ≡ true → is_success (status_of x) ≡ true
      → takes call.server.machine (status_of x) ≡ false → is_over call.server.machine
  ended_so x rest is invited success none =
      let won = succeeded (is_succeeded (rows_of call)) refl in
      let empty : handed ++ finals_owed call.server.owed ≡ [] =
      sym holds.stands.finals.all ∙ none_of_succeeded one before beside call.log holds.log won in
      has_ended call.server.machine (status_of x) (holds.stands.finals.side ∙ invited) success none
      (holds.stands.finals.unfailed (join_none handed (finals_owed call.server.owed) empty))
    where
      join_none : (xs ys : List Choice) → xs ++ ys ≡ [] → xs ≡ []
      join_none [] ys e = refl
      join_none (c ∷ xs) ys e = absurd cc

      -- such a response is owed only where a branch was answered with a 2xx
      succeeded : (b : Bool) → is_succeeded (rows_of call) ≡ b → is_succeeded (rows_of call) ≡ true
      succeeded true e = e
      succeeded false e =
          let A : List Owed → Type 0 = λ os. AllByRecursion (MayBeOwed call) os in
          let head = subst A is holds.stands.owed in
          let h : true ≡ false = sym (head.0.1 e) ∙ (success_parts (status_of x) success).0 in
          absurd cc

  -- ---- each payment

  sent_right : (owed : Owed) (rest : List Owed) (m : MessageText) (output : step.Output) → call.server.owed ≡ owed ∷ rest → answer_of call owed ≡ Some m
      → output ≡ sent_to call (spelling m) → IsPaidRight (payment_at turns call owed output)
  sent_right server.Trying rest m output is made out = inl (out ∙ ap (λ (x : MessageText). sent_to call (spelling x)) (sym (some_same _ _ made)))
  sent_right (server.Passed x) rest m output is made out = inl (out ∙ ap (λ (x : MessageText). sent_to call (spelling x)) (sym (some_same _ _ made)))
  sent_right (server.Final choice) rest m output is made out = gives_sent choice rest m output is made out
  sent_right server.Again rest m output is made out = absurd cc
  sent_right (server.CancelOk cancel to) rest m output is made out = absurd cc

  dropped_right : (owed : Owed) (rest : List Owed) (m : MessageText) (now : ℕ) (output : step.Output) → call.server.owed ≡ owed ∷ rest → answer_of call owed ≡ Some m
      → is_response (served_out (answer_event (status_of m)) now call.server.machine).send ≡ false
      → output ≡ step.Did pump.Did → IsPaidRight (payment_at turns call owed output)
  dropped_right server.Trying rest m now output is made drops out =
      inr (out, ap (λ (x : MessageText). takes call.server.machine (status_of x)) (some_same _ _ made) ∙ dropped_takes (status_of m) now call.server.machine drops)
  dropped_right (server.Passed x) rest m now output is made drops out =
      let none : takes call.server.machine (status_of x) ≡ false =
      ap (λ (y : MessageText). takes call.server.machine (status_of y)) (some_same _ _ made) ∙ dropped_takes (status_of m) now call.server.machine drops in
      inr (out, none, λ invited success. ended_so x rest is invited success none)
  dropped_right (server.Final choice) rest m now output is made drops out = gives_dropped choice rest m now output is made drops out
  dropped_right server.Again rest m now output is made drops out = absurd cc
  dropped_right (server.CancelOk cancel to) rest m now output is made drops out = absurd cc

  module _ (stage : Stage) where
    abbrev Each : List Payment → Type 0
    Each ps = AllByRecursion IsPaidRight ps

    nothing : (more : List Owed) → stage.call.server.owed ≡ call.server.owed ++ more → Each (paid_at turns call stage)
    nothing more e = subst Each (sym (grows_paid turns call stage more e)) tt

    as_much : stage.call.server.owed ≡ call.server.owed → Each (paid_at turns call stage)
    as_much e = nothing [] (e ∙ sym (append-nil call.server.owed))

    something : (owed : Owed) (rest : List Owed) → call.server.owed ≡ owed ∷ rest → stage.call.server.owed ≡ rest
        → IsPaidRight (payment_at turns call owed stage.turn.output) → Each (paid_at turns call stage)
    something owed rest is left right = subst Each (sym (less_paid turns call stage owed rest is left)) (right, tt)

    right_paid : Serves stage.turn.now call stage.turn.input stage.turn.output stage.call → Each (paid_at turns call stage)
    right_paid (Beside l s) = as_much (ap (λ (x : server.Server). x.owed) s)
    right_paid (Posted ev response reply goes is l s) = nothing _ (ap (λ (x : server.Server). x.owed) s)
    right_paid (Cancelled cancel hop marks l s) = nothing _ (ap (λ (x : server.Server). x.owed) s)
    right_paid (CancelledBoth cancel hop ev reply marks is l s) =
        nothing _ (ap (λ (x : server.Server). x.owed) s ∙ append_assoc call.server.owed (server.CancelOk cancel hop ∷ []) _)
    right_paid (Acked l s) = as_much (ap (λ (x : server.Server). x.owed) s)
    right_paid (Faulted why l s) = as_much (ap (λ (x : server.Server). x.owed) s)
    right_paid (Ticked sends out is l s) = as_much (ap (λ (x : server.Server). x.owed) s)
    right_paid (Repeated sends is l s) = nothing _ (ap (λ (x : server.Server). x.owed) s)
    right_paid (Sent owed rest m is made sends out l s) = something owed rest is (ap (λ (x : server.Server). x.owed) s) (sent_right owed rest m stage.turn.output is made out)
    right_paid (Dropped owed rest m is made drops out l s) =
        something owed rest is (ap (λ (x : server.Server). x.owed) s) (dropped_right owed rest m stage.turn.now stage.turn.output is made drops out)
    right_paid (Again rest is out l s) = something server.Again rest is (ap (λ (x : server.Server). x.owed) s) out
    right_paid (Okayed cancel hop rest is out l s) =
        something (server.CancelOk cancel hop) rest is (ap (λ (x : server.Server). x.owed) s) (head_okay (server.CancelOk cancel hop) rest is, out)

-- ---- one step, and all

logged : (now : ℕ) (call new : Call) (input : step.Input) (output : step.Output) → Serves now call input output new → IsLog call.log → IsLog new.log
logged now call new input output (Beside l s) is = subst IsLog (sym l) is
logged now call new input output (Posted ev response reply goes replied l s) is = subst IsLog (sym l) (log_more call.log _ ev reply is replied)
logged now call new input output (Cancelled cancel hop marks l s) is = subst IsLog (sym l) is
logged now call new input output (CancelledBoth cancel hop ev reply marks replied l s) is = subst IsLog (sym l) (log_more call.log _ ev reply is replied)
logged now call new input output (Acked l s) is = subst IsLog (sym l) is
logged now call new input output (Faulted why l s) is = subst IsLog (sym l) is
logged now call new input output (Ticked sends out be l s) is = subst IsLog (sym l) is
logged now call new input output (Repeated sends be l s) is = subst IsLog (sym l) is
logged now call new input output (Sent owed rest m be made sends out l s) is = subst IsLog (sym l) is
logged now call new input output (Dropped owed rest m be made sends out l s) is = subst IsLog (sym l) is
logged now call new input output (Again rest be out l s) is = subst IsLog (sym l) is
logged now call new input output (Okayed cancel hop rest be out l s) is = subst IsLog (sym l) is

module _ (one : ExactlyOneFinal) (before : NoFinalBefore) (beside : NoFinalBesideSuccess) (sound : StepsKeepSound) (stand : StepsStand) where
  -- what holds of a run from a call that stands so
  pub record Goes (turns : List Turn) (handed : List Choice) (call : Call) (stages : List Stage) : Type 0 where
    pub later : List Turn
    pub ends : Holds later (handed ++ finals_paid (payments turns call stages)) (end_of call stages)
    pub order : call.server.owed ++ owed_since call stages ≡ map owed_of (payments turns call stages) ++ (end_of call stages).server.owed
    pub each : AllByRecursion IsPaidRight (payments turns call stages)

  paid_more : (handed : List Choice) (ps qs : List Payment) → (handed ++ finals_paid ps) ++ finals_paid qs ≡ handed ++ finals_paid (ps ++ qs)
  paid_more handed ps qs =
      append_assoc handed (finals_paid ps) (finals_paid qs)
      ∙ ap (λ (cs : List Choice). handed ++ cs) (sym (ap finals_owed (owed_joined ps qs) ∙ owed_more (map owed_of ps) (map owed_of qs)))

  pub one_step : (turns : List Turn) (handed : List Choice) (call : Call) (stage : Stage) → Holds turns handed call → step.Step stage.turn.now call stage.turn.input stage.call stage.turn.output
      → IsGiven stage.turn.input → Holds (turns ++ stage.turn ∷ []) (handed ++ finals_paid (paid_at turns call stage)) stage.call
  one_step turns handed call stage holds goes given = record {
    sound = sound stage.turn call stage.call holds.sound given goes;
    log = logged stage.turn.now call stage.call stage.turn.input stage.turn.output (serves stage.turn.now call stage.turn.input stage.call stage.turn.output goes) holds.log;
    stands = stand turns handed stage.turn call stage.call holds.sound holds.stands goes;
  }

  goes_so : (stages : List Stage) (turns : List Turn) (handed : List Choice) (call : Call) → Holds turns handed call → AreGiven stages → Leads call stages
      → Goes turns handed call stages
  goes_so [] turns handed call holds given leads = record {
    later = turns;
    ends = let H : List Choice → Type 0 = λ cs. Holds turns cs call in subst H (sym (append-nil handed)) holds;
    order = append-nil call.server.owed;
    each = tt;
  }
  goes_so (stage ∷ stages) turns handed call holds given leads =
      let next = one_step turns handed call stage holds leads.0 given.0 in
      let rest = goes_so stages (turns ++ stage.turn ∷ []) (handed ++ finals_paid (paid_at turns call stage)) stage.call next given.1 leads.1 in
      let s = serves stage.turn.now call stage.turn.input stage.call stage.turn.output leads.0 in
      let ps = paid_at turns call stage in
      let qs = payments (turns ++ stage.turn ∷ []) stage.call stages in
      let E : List Choice → Type 0 = λ cs. Holds rest.later cs (end_of stage.call stages) in
      record {
        later = rest.later;
        ends = subst E (paid_more handed ps qs) rest.ends;
        order = sym (append_assoc call.server.owed (owed_new call stage) (owed_since stage.call stages))
            ∙ ap (λ (os : List Owed). os ++ owed_since stage.call stages) (owed_is turns call stage (owing turns call stage s))
            ∙ append_assoc (map owed_of ps) stage.call.server.owed (owed_since stage.call stages)
            ∙ ap (λ (os : List Owed). map owed_of ps ++ os) rest.order
            ∙ sym (append_assoc (map owed_of ps) (map owed_of qs) (end_of stage.call stages).server.owed)
            ∙ ap (λ (os : List Owed). os ++ (end_of stage.call stages).server.owed) (sym (owed_joined ps qs));
        each = all_joined IsPaidRight ps qs (right_paid one before beside turns handed call holds stage s) rest.each;
      }

  -- ---- from its beginning

  module _ (begun_sound : BegunIsSound) (begun_stand : BegunStands) (opened : OpenedRequest) (rules : Rules) (targets : List Target) (destinations : List Destination) (some : targets ≢ []) where
    pub first : Holds [] [] (Begins opened rules targets destinations)
    first = record {
      sound = begun_sound opened rules targets destinations;
      log = opening_logged (kind_of opened) rules targets some;
      stands = begun_stand opened rules targets destinations;
    }

    run : (stages : List Stage) → AreGiven stages → Leads (Begins opened rules targets destinations) stages → Goes [] [] (Begins opened rules targets destinations) stages
    run stages given leads = goes_so stages [] [] (Begins opened rules targets destinations) first given leads

    pub pays_in_order : (stages : List Stage) → AreGiven stages → Leads (Begins opened rules targets destinations) stages → PaysInOrder (Begins opened rules targets destinations) stages
    pays_in_order stages given leads = let r = run stages given leads in record { order = r.order; each = r.each }

    -- one final answer among what was paid
    one_final : (ps : List Payment) (choice : Choice) → finals_paid ps ≡ choice ∷ [] → AllByRecursion IsPaidRight ps
        → (p : Payment) × (filter is_final_payment ps ≡ p ∷ []) × (p.owed ≡ server.Final choice) × GivesFinal p choice
    one_final [] choice e rights = absurd cc
    one_final (p ∷ ps) choice e rights = by p.owed refl e rights.0 (λ f. one_final ps choice f rights.1)
      where
        keeps : (b : Bool) → is_final p.owed ≡ b → filter is_final_payment (p ∷ ps) ≡ cond {A = List Payment} b (p ∷ filter is_final_payment ps) (filter is_final_payment ps)
        keeps b is = ap (λ (x : Bool). cond {A = List Payment} x (p ∷ filter is_final_payment ps) (filter is_final_payment ps)) is

        Found : List Payment → Type 0
        Found qs = (q : Payment) × (filter is_final_payment qs ≡ q ∷ []) × (q.owed ≡ server.Final choice) × GivesFinal q choice

        other : is_final p.owed ≡ false → Found ps → Found (p ∷ ps)
        other not_final f = (f.0, keeps false not_final ∙ f.1, f.2, f.3)

        here : (c : Choice) → p.owed ≡ server.Final c → c ∷ finals_paid ps ≡ choice ∷ [] → IsPaidAs p (server.Final c) → Found (p ∷ ps)
        here c is e right =
            let same : c ≡ choice = cc in
            let none : finals_paid ps ≡ [] = cc in
            let O : Choice → Type 0 = λ x. p.owed ≡ server.Final x in
            let G : Choice → Type 0 = λ x. GivesFinal p x in
            (p, keeps true (ap is_final is) ∙ ap (λ (qs : List Payment). p ∷ qs) (no_finals ps none), subst O same is, subst G same right)

        by : (o : Owed) → p.owed ≡ o → finals_owed (o ∷ map owed_of ps) ≡ choice ∷ [] → IsPaidAs p o → (finals_paid ps ≡ choice ∷ [] → Found ps) → Found (p ∷ ps)
        by server.Trying is e right rest = other (ap is_final is) (rest e)
        by (server.Passed m) is e right rest = other (ap is_final is) (rest e)
        by (server.Final c) is e right rest = here c is e right
        by server.Again is e right rest = other (ap is_final is) (rest e)
        by (server.CancelOk cancel to) is e right rest = other (ap is_final is) (rest e)

    pub answers_once : (stages : List Stage) → AreGiven stages → Leads (Begins opened rules targets destinations) stages
        → is_finished (rows_of (end_of (Begins opened rules targets destinations) stages)) ≡ true
        → is_succeeded (rows_of (end_of (Begins opened rules targets destinations) stages)) ≡ false
        → (end_of (Begins opened rules targets destinations) stages).server.owed ≡ []
        → AnswersOnce (Begins opened rules targets destinations) stages
    answers_once stages given leads done not_won none =
        let r = run stages given leads in
        let last = end_of (Begins opened rules targets destinations) stages in
        let ends = ends_once one before beside last.log r.ends.log done not_won in
        let all : finals last.log.replies ≡ finals_paid (payments [] (Begins opened rules targets destinations) stages) =
        r.ends.stands.finals.all ∙ ap (λ (os : List Owed). finals_paid (payments [] (Begins opened rules targets destinations) stages) ++ finals_owed os) none
        ∙ append-nil (finals_paid (payments [] (Begins opened rules targets destinations) stages)) in
        let f = one_final (payments [] (Begins opened rules targets destinations) stages) ends.0 (sym all ∙ ends.1) r.each in
        record {
          payment = f.0;
          choice = ends.0;
          alone = f.1;
          is = f.2;
          chosen = (is_due_of (rows_of last) done not_won, ends.2);
          gives = f.3;
        }

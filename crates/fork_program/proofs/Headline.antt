-- The replay of a fork that is done tells its one final answer; that of any other fork tells none.
use Rattle.fork_program.proofs.Common.{◌≡◌, ◌≢◌, ℕ, true, false, List, [], ◌∷◌, length, ap, subst, ◌∙◌, Table, is_finished, is_succeeded, Event, IsChoice, AreArrivals, one_choice, targets_of, IsRanking, TheChoiceIsFirst, Script, IsForkReplay, Ending}
use Rattle.fork_program.proofs.Common.{Succeeded, Unfinished, Listed, IsEnding, opened, closed, replay_text, IsDone, TellsOneFinal, common_steps, arith}
use Rattle.std.proofs.Common.{◌&&◌, ◌⊎◌, inl, inr, not, Bool, cond, refl, sym}
use Rattle.fork_model.specs.Choice.{Choice}
use Rattle.fork_model.specs.Step.{next}
use Rattle.fork_model.specs.Reply.{Up, Nothing, Provisional, Success, Final, Reply, IsUp}
use Rattle.fork_model.specs.Core.{Core, Outcome, Full, Replied, is_full, core_next, core_offered, core_after, AreOutcomes}
use Rattle.fork_model.specs.History.{table, finals, with_final, OneFinal}
use Rattle.fork_model.specs.ExactlyOne.{taken_of, replies_of, NoFinalBeforeOfContext, NoFinalBesideSuccessOfContext}
use Rattle.fork_program.specs.Headline.{LastEndIsAnswered, IsNotDone, TellsNoFinal}
use Rattle.fork_model.proofs.laws.Headline.{history_of_arrivals, stands_by_its_history, one_final_of_context, rows_always_keep_numbers}
use Rattle.fork_context.specs.declared.context.NewFault.TheVariants as setup

abbrev taken : Script → List Event
taken script = taken_of (opened script) script.events

-- the context stands where the history of the events that it took leads
closed_is : (script : Script) → (closed script).table ≡ table script.kind script.rules script.targets (taken script)
closed_is script = stands_by_its_history (opened script) script.events

pub rules_stay : (script : Script) → (closed script).table.rules ≡ script.rules
rules_stay script = grind (arith, common_steps, closed_is, rows_always_keep_numbers)

pub arrivals : (script : Script) → AreArrivals (closed script).table.rows (length (taken script))
arrivals script = grind (arith, common_steps, closed_is, history_of_arrivals)

-- ---- the final reply is that to the event which ended the last branch

finishes_parts : (a b c : Bool) → (a && not b && not c) ≡ true → (a ≡ true) × (b ≡ false)
finishes_parts true false c e = (refl, refl)
finishes_parts true true c e = absurd cc
finishes_parts false b c e = absurd cc

cons_is : (a b : Choice) (others more : List Choice) → a ∷ others ≡ b ∷ more → a ≡ b
cons_is a b others more e = cc

at_first : (core : Core) (event : Event) (events : List Event) (outcomes : List Outcome) (reply : Reply) (choice : Choice) → is_full core event ≡ false
    → IsUp core.table event (next core.table event core.taken) reply.up → reply.up ≡ Final choice → LastEndIsAnswered core (event ∷ events) (Replied reply ∷ outcomes) choice
at_first core event events outcomes reply choice room is up =
    let final : IsUp core.table event (next core.table event core.taken) (Final choice) = subst (λ (u : Up). IsUp core.table event (next core.table event core.taken) u) up is in
    let parts = finishes_parts (is_finished (next core.table event core.taken).rows) (is_finished core.table.rows) (is_succeeded (next core.table event core.taken).rows) final.2 in
    let offered : core_offered core event ≡ core_next core event = ap (λ t. cond t core (core_next core event)) room in
    record {
      before = [];
      event = event;
      behind = events;
      placed = refl;
      unfinished = parts.1;
      finished = ap (λ (c : Core). is_finished c.table.rows) offered ∙ parts.0;
      reply = reply;
      replied = refl;
      final = up;
    }

at_later : (core : Core) (event : Event) (events : List Event) (outcome : Outcome) (outcomes : List Outcome) (choice : Choice) → LastEndIsAnswered (core_offered core event) events outcomes choice
    → LastEndIsAnswered core (event ∷ events) (outcome ∷ outcomes) choice
at_later core event events outcome outcomes choice found = record {
  before = event ∷ found.before;
  event = found.event;
  behind = found.behind;
  placed = ap (λ (es : List Event). event ∷ es) found.placed;
  unfinished = found.unfinished;
  finished = found.finished;
  reply = found.reply;
  replied = found.replied;
  final = found.final;
}

last_end : (core : Core) (events : List Event) (outcomes : List Outcome) (choice : Choice) (choices : List Choice) → AreOutcomes core events outcomes → finals (replies_of outcomes) ≡ choice ∷ choices
    → LastEndIsAnswered core events outcomes choice
last_end core [] [] choice choices are e = absurd cc
last_end core [] (outcome ∷ outcomes) choice choices are e = absurd are
last_end core (event ∷ events) [] choice choices are e = absurd are
last_end core (event ∷ events) (Full ∷ outcomes) choice choices are e =
    at_later core event events Full outcomes choice (last_end (core_offered core event) events outcomes choice choices are.1 e)
last_end core (event ∷ events) (Replied reply ∷ outcomes) choice choices are e =
    one reply.up refl e (λ rest. last_end (core_offered core event) events outcomes choice choices are.1 rest)
  where
    one : (up : Up) → reply.up ≡ up → with_final up (finals (replies_of outcomes)) ≡ choice ∷ choices
        → (finals (replies_of outcomes) ≡ choice ∷ choices → LastEndIsAnswered (core_offered core event) events outcomes choice)
        → LastEndIsAnswered core (event ∷ events) (Replied reply ∷ outcomes) choice
    one Nothing same e again = at_later core event events (Replied reply) outcomes choice (again e)
    one (Provisional n) same e again = at_later core event events (Replied reply) outcomes choice (again e)
    one (Success n) same e again = at_later core event events (Replied reply) outcomes choice (again e)
    one (Final first) same e again =
        at_first core event events outcomes reply choice are.0.0 are.0.1.up (same ∙ ap Final (cons_is first choice (finals (replies_of outcomes)) choices e))

-- ---- what is told

pub tells_one_final : TheChoiceIsFirst → (script : Script) (printed : List ℕ) → IsForkReplay script printed → IsDone script → TellsOneFinal script printed
tells_one_final listed_first script printed replay done = go replay.replayed.ending replay.replayed.last replay.replayed.spelled
  where
    some : script.targets ≢ []
    some none = replay.set_up setup.NoTargets none

    go : (ending : Ending) → IsEnding (closed script).table ending → printed ≡ replay_text script replay.replayed.outcomes ending → TellsOneFinal script printed
    go Succeeded last spelled = absurd (let yes : is_succeeded (closed script).table.rows ≡ true = last in let no : is_succeeded (closed script).table.rows ≡ false = done.1 in cc)
    go (Unfinished branches) last spelled = absurd (let yes : is_finished (closed script).table.rows ≡ true = done.0 in let no : is_finished (closed script).table.rows ≡ false = last.1 in cc)
    go (Listed ranks choice) last spelled =
        let t : Table = (closed script).table in
        let one : OneFinal t (replies_of replay.replayed.outcomes) =
        one_final_of_context script.kind script.rules script.targets script.events replay.replayed.outcomes some replay.replayed.right done.0 done.1 in
        let same : one.0 ≡ choice = one_choice t.rules t.rows (length (taken script)) (arrivals script) one.0 choice one.2 last.3 in
        let once : finals (replies_of replay.replayed.outcomes) ≡ choice ∷ [] = one.1 ∙ ap (λ (c : Choice). c ∷ []) same in
        record {
          outcomes = replay.replayed.outcomes;
          ranks = ranks;
          choice = choice;
          answered = replay.replayed.right;
          once = once;
          last_end = last_end (opened script) script.events replay.replayed.outcomes choice [] replay.replayed.right once;
          chosen = subst (λ rules. IsChoice rules t.rows choice) (rules_stay script) last.3;
          ranking = subst (λ rules. IsRanking rules (targets_of t.rows) ranks) (rules_stay script) last.2;
          first = listed_first t (length (taken script)) ranks choice (arrivals script) last.2 last.3;
          spelled = spelled;
        }

pub tells_no_final : NoFinalBeforeOfContext → NoFinalBesideSuccessOfContext → (script : Script) (printed : List ℕ) → IsForkReplay script printed → IsNotDone script → TellsNoFinal script printed
tells_no_final before beside script printed replay open_ = record {
  outcomes = replay.replayed.outcomes;
  ending = replay.replayed.ending;
  answered = replay.replayed.right;
  none = elim open_ [
    | inl unfinished ↦ before script.kind script.rules script.targets script.events replay.replayed.outcomes replay.replayed.right unfinished
    | inr succeeded ↦ beside script.kind script.rules script.targets script.events replay.replayed.outcomes replay.replayed.right succeeded
  ];
  last = replay.replayed.last;
  spelled = replay.replayed.spelled;
}

-- What a run of workers prints, why there is none, and that a run whose fork is done tells its one final answer.
use Rattle.std.proofs.Common.{◌≡◌, ◌≢◌, inl, inr, ◌&&◌, not, ℕ, suc, Bool, true, false, List, [], ◌∷◌, length, refl, sym, ap, subst, ◌∙◌}
use Rattle.fork_model.specs.Table.{Table, is_finished, is_succeeded}
use Rattle.fork_model.specs.Choice.{Choice, IsChoice}
use Rattle.fork_model.specs.Step.{next}
use Rattle.fork_model.specs.Reply.{Up, Nothing, Provisional, Success, Final, Reply, IsUp}
use Rattle.fork_model.specs.History.{after, AreReplies, finals, with_final, OneFinal}
use Rattle.fork_model.specs.ExactlyOne.{ExactlyOneFinal, NoFinalBefore, NoFinalBesideSuccess}
use Rattle.fork_model.specs.OneReply.{AreArrivals}
use Rattle.fork_model.proofs.laws.Headline.{history_of_arrivals, rows_always_keep_numbers, one_choice}
use Rattle.fork_context.specs.declared.context.NewFault.TheVariants as setup
use Rattle.fork_model.specs.Log.{Posted, Log, events_of, table_of}
use Rattle.fork_listing.specs.Listed.{targets_of}
use Rattle.fork_listing.specs.Ranking.{IsRanking}
use Rattle.fork_listing.specs.Meaning.{TheChoiceIsFirst}
use Rattle.fork_program.specs.Replay.{Ending, Succeeded, Unfinished, Listed, IsEnding}
use Rattle.fork_engine.specs.Workers.{Workers}
use Rattle.fork_engine.specs.Run.{IsRun, IsPrinted, log_text}
use Rattle.fork_engine.specs.TextFaults.{IsFork}
use Rattle.fork_engine.specs.Headline.{IsDone, LastEndIsAnswered, TellsOneFinal, IsNotDone}

arrivals : (workers : Workers) (log : Log) → IsRun workers log → AreArrivals (table_of log).rows (length (events_of log.history))
arrivals workers log run =
    let P : Table → Type 0 = λ t. AreArrivals (after t 0 (events_of log.history)).rows (length (events_of log.history)) in
    subst P (sym run.opened) (history_of_arrivals workers.kind workers.rules workers.targets (events_of log.history))

rules_stay : (workers : Workers) (log : Log) → IsRun workers log → (table_of log).rules ≡ workers.rules
rules_stay workers log run =
    (rows_always_keep_numbers log.opening 0 (events_of log.history)).rules ∙ ap (λ (t : Table). t.rules) run.opened

-- the one final answer of the log
finals_once : ExactlyOneFinal → (workers : Workers) (log : Log) → IsFork workers.targets → IsRun workers log → IsDone log → OneFinal (table_of log) log.replies
finals_once once workers log fork run done =
    let P : Table → Type 0 = λ t. (is_finished (after t 0 (events_of log.history)).rows ≡ true) → (is_succeeded (after t 0 (events_of log.history)).rows ≡ false) → OneFinal (after t 0 (events_of log.history)) log.replies in
    let Q : Table → Type 0 = λ t. AreReplies t 0 (events_of log.history) log.replies in
    let some : workers.targets ≢ [] = λ none. fork setup.NoTargets none in
    subst P (sym run.opened) (once workers.kind workers.rules workers.targets (events_of log.history) log.replies some (subst Q run.opened run.answered)) done.0 done.1

-- ---- the final reply is that to the event which ended the last branch

finishes_parts : (a b c : Bool) → (a && not b && not c) ≡ true → (a ≡ true) × (b ≡ false)
finishes_parts true false c e = (refl, refl)
finishes_parts true true c e = absurd cc
finishes_parts false b c e = absurd cc

cons_is : (a b : Choice) (others more : List Choice) → a ∷ others ≡ b ∷ more → a ≡ b
cons_is a b others more e = cc

at_first : (t : Table) (at : ℕ) (post : Posted) (history : List Posted) (replies : List Reply) (reply : Reply) (choice : Choice)
    → IsUp t post.event (next t post.event at) reply.up → reply.up ≡ Final choice → LastEndIsAnswered t at (post ∷ history) (reply ∷ replies) choice
at_first t at post history replies reply choice is up =
    let final : IsUp t post.event (next t post.event at) (Final choice) = subst (λ (u : Up). IsUp t post.event (next t post.event at) u) up is in
    let parts = finishes_parts (is_finished (next t post.event at).rows) (is_finished t.rows) (is_succeeded (next t post.event at).rows) final.2 in
    record {
      before = [];
      post = post;
      behind = history;
      placed = refl;
      unfinished = parts.1;
      finished = parts.0;
      reply = reply;
      replied = refl;
      final = up;
    }

at_later : (t : Table) (at : ℕ) (post : Posted) (history : List Posted) (reply : Reply) (replies : List Reply) (choice : Choice)
    → LastEndIsAnswered (next t post.event at) (suc at) history replies choice → LastEndIsAnswered t at (post ∷ history) (reply ∷ replies) choice
at_later t at post history reply replies choice found = record {
  before = post ∷ found.before;
  post = found.post;
  behind = found.behind;
  placed = ap (λ (ps : List Posted). post ∷ ps) found.placed;
  unfinished = found.unfinished;
  finished = found.finished;
  reply = found.reply;
  replied = found.replied;
  final = found.final;
}

last_end : (t : Table) (at : ℕ) (history : List Posted) (replies : List Reply) (choice : Choice) (choices : List Choice) → AreReplies t at (events_of history) replies → finals replies ≡ choice ∷ choices
    → LastEndIsAnswered t at history replies choice
last_end t at [] [] choice choices are e = absurd cc
last_end t at [] (reply ∷ replies) choice choices are e = absurd are
last_end t at (post ∷ history) [] choice choices are e = absurd are
last_end t at (post ∷ history) (reply ∷ replies) choice choices are e =
    one reply.up refl e (λ rest. last_end (next t post.event at) (suc at) history replies choice choices are.1 rest)
  where
    one : (up : Up) → reply.up ≡ up → with_final up (finals replies) ≡ choice ∷ choices
        → (finals replies ≡ choice ∷ choices → LastEndIsAnswered (next t post.event at) (suc at) history replies choice)
        → LastEndIsAnswered t at (post ∷ history) (reply ∷ replies) choice
    one Nothing same e again = at_later t at post history reply replies choice (again e)
    one (Provisional n) same e again = at_later t at post history reply replies choice (again e)
    one (Success n) same e again = at_later t at post history reply replies choice (again e)
    one (Final first) same e again =
        at_first t at post history replies reply choice are.0.up (same ∙ ap Final (cons_is first choice (finals replies) choices e))

-- ---- what is told

pub tells_no_final : NoFinalBefore → NoFinalBesideSuccess → (workers : Workers) (log : Log) → IsRun workers log → IsNotDone log → finals log.replies ≡ []
tells_no_final before beside workers log run open_ =
    let Q : Table → Type 0 = λ t. AreReplies t 0 (events_of log.history) log.replies in
    let U : Table → Type 0 = λ t. is_finished (after t 0 (events_of log.history)).rows ≡ false in
    let S : Table → Type 0 = λ t. is_succeeded (after t 0 (events_of log.history)).rows ≡ true in
    elim open_ [
      | inl unfinished ↦ before workers.kind workers.rules workers.targets (events_of log.history) log.replies (subst Q run.opened run.answered) (subst U run.opened unfinished)
      | inr succeeded ↦ beside workers.kind workers.rules workers.targets (events_of log.history) log.replies (subst Q run.opened run.answered) (subst S run.opened succeeded)
    ]

pub tells_one_final : TheChoiceIsFirst → ExactlyOneFinal → (workers : Workers) (log : Log) (printed : List ℕ) → IsFork workers.targets → IsRun workers log → IsPrinted log printed → IsDone log → TellsOneFinal workers log printed
tells_one_final listed_first once workers log printed fork run told done = go told.ending told.last told.spelled
  where
    go : (ending : Ending) → IsEnding (table_of log) ending → printed ≡ log_text log ending → TellsOneFinal workers log printed
    go Succeeded last spelled = absurd (let came : is_succeeded (table_of log).rows ≡ true = last in let none : is_succeeded (table_of log).rows ≡ false = done.1 in cc)
    go (Unfinished branches) last spelled = absurd (let ended : is_finished (table_of log).rows ≡ true = done.0 in let open_ : is_finished (table_of log).rows ≡ false = last.1 in cc)
    go (Listed ranks choice) last spelled =
        let t : Table = table_of log in
        let kept = arrivals workers log run in
        let one : OneFinal t log.replies = finals_once once workers log fork run done in
        let same : one.0 ≡ choice = one_choice t.rules t.rows (length (events_of log.history)) kept one.0 choice one.2 last.3 in
        let once_ : finals log.replies ≡ choice ∷ [] = one.1 ∙ ap (λ (c : Choice). c ∷ []) same in
        record {
          ranks = ranks;
          choice = choice;
          once = once_;
          last_end = last_end log.opening 0 log.history log.replies choice [] run.answered once_;
          chosen = subst (λ rules. IsChoice rules t.rows choice) (rules_stay workers log run) last.3;
          ranking = subst (λ rules. IsRanking rules (targets_of t.rows) ranks) (rules_stay workers log run) last.2;
          first = listed_first t (length (events_of log.history)) ranks choice kept last.2 last.3;
          spelled = spelled;
        }

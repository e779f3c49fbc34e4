-- What is printed of a run of workers, in steps, and why there is no run.
use Rattle.std.proofs.Common.{◌≡◌, ◌≢◌, ◌≤◌, ℕ, true, false, List, [], ◌++◌, length, Err, refl, sym, ap, subst, ◌∙◌, append_assoc}
use Rattle.std.specs.Prelude.{◌↔◌, IsErrOf}
use Rattle.fork_model.specs.Table.{Table, most_targets, is_finished, is_succeeded}
use Rattle.fork_model.specs.Challenges.{challenge_list}
use Rattle.fork_model.specs.Core.{Core}
use Rattle.fork_model.specs.History.{Target}
use Rattle.fork_context.specs.declared.context.NewFault.{NewFault}
use Rattle.fork_context.specs.declared.context.NewFault.TheVariants as setup
use Rattle.fork_context.specs.Refusals.{HasTwice, IsTooMany}
use Rattle.fork_model.specs.Log.{Log, core_of, table_of}
use Rattle.fork_engine.specs.declared.fault.DriveFault.{DriveFault}
use Rattle.fork_engine.specs.declared.fault.DriveFault.TheVariants as run
use Rattle.fork_engine.specs.Faults.{IsNew, IsTrueFault}
use Rattle.fork_rank.specs.RuleLines.{ended}
use Rattle.fork_listing.specs.Text.{listing_text}
use Rattle.fork_listing.specs.Listed.{listing_of}
use Rattle.fork_program.specs.Replay.{Ending, Succeeded, Unfinished, Listed, IsEnding, IsAccepted, EndsWith, opening_text, added_lines, ending_lines}
use Rattle.fork_program.specs.RightListing.{EndsInRightListing, RightListingsAreShort}
use Rattle.fork_program.specs.declared.fault.ProgFault.{ProgFault}
use Rattle.fork_program.specs.declared.fault.ProgFault.TheVariants as prog
use Rattle.fork_program.specs.FaultView.{fault_set_up}
use Rattle.fork_program.specs.Faults.{IsSetupFault}
use Rattle.fork_engine.specs.Workers.{Workers}
use Rattle.fork_engine.specs.Run.{IsPrinted, posts_text}
use Rattle.fork_engine.specs.Headline.{IsDone}
use Rattle.fork_engine.specs.inner.FaultView.{fault_driven}
use Rattle.fork_engine.specs.inner.Faults.{IsFirstFault}
use Rattle.fork_engine.specs.TextFaults.{IsFork, IsRunFault, IsDriveFault}
use Rattle.fork_engine.specs.TornBooks.{IsTrueDriveFault, IsTrueRunFault, told}
use Rattle.fork_engine.specs.declared.text_fault.RunFault.{RunFault}
use Rattle.fork_engine.specs.declared.text_fault.RunFault.TheVariants as whole

pub is_fork : (targets : List Target) → (targets ≡ [] → ⊥) → (IsTooMany targets → ⊥) → ((length targets ≤ most_targets) × HasTwice targets → ⊥) → IsFork targets
is_fork targets none many twice setup.NoTargets is = none is
is_fork targets none many twice setup.TooMany is = many is
is_fork targets none many twice setup.Twice is = twice is
is_fork targets none many twice setup.NoMemory is = is

pub first_refused : {T : Type 0} (targets copies : List Target) (fault : NewFault) → copies ≡ targets
    → (IsErrOf {T = T} (Err fault) setup.NoTargets ↔ (copies ≡ []))
    → (IsErrOf {T = T} (Err fault) setup.TooMany ↔ IsTooMany copies)
    → (IsErrOf {T = T} (Err fault) setup.Twice ↔ ((length copies ≤ most_targets) × HasTwice copies))
    → IsFirstFault targets (fault_set_up fault)
first_refused targets copies setup.NoTargets same none many twice = sym same ∙ none.0 refl
first_refused targets copies setup.TooMany same none many twice = subst IsTooMany same (many.0 refl)
first_refused targets copies setup.Twice same none many twice =
    let P : List Target → Type 0 = λ ts. (length ts ≤ most_targets) × HasTwice ts in
    subst P same (twice.0 refl)
first_refused targets copies setup.NoMemory same none many twice = tt

pub first_run_refused : (workers : Workers) (targets : List Target) (fault : ProgFault) → targets ≡ workers.targets → IsFirstFault targets fault → IsRunFault workers fault
first_run_refused workers targets prog.TooLong same is = absurd is
first_run_refused workers targets (prog.Line number) same is = absurd is
first_run_refused workers targets (prog.New fault) same is = subst (λ (ts : List Target). IsSetupFault ts fault) same is
first_run_refused workers targets prog.Stopped same is = absurd is
first_run_refused workers targets prog.Torn same is = absurd is
first_run_refused workers targets prog.NoMemory same is = tt

-- no text is torn before its workers run
pub first_not_torn : (targets : List Target) (fault : ProgFault) → IsFirstFault targets fault → fault ≢ prog.Torn
first_not_torn targets prog.TooLong is e = absurd is
first_not_torn targets (prog.Line number) is e = absurd is
first_not_torn targets (prog.New fault) is e = absurd cc
first_not_torn targets prog.Stopped is e = absurd is
first_not_torn targets prog.Torn is e = absurd is
first_not_torn targets prog.NoMemory is e = absurd cc

module _ {A : Type 0} where
  pub run_refused : (workers : Workers) (fault : DriveFault A)
      → (IsNew setup.NoTargets fault ↔ (workers.targets ≡ []))
      → (IsNew setup.TooMany fault ↔ IsTooMany workers.targets)
      → (IsNew setup.Twice fault ↔ ((length workers.targets ≤ most_targets) × HasTwice workers.targets))
      → IsTrueFault workers.kind workers.rules workers.targets workers.scripts fault
      → IsTrueRunFault workers (fault_driven fault)
  run_refused workers (run.New setup.NoTargets) none many twice is = (none.0 refl, λ e. absurd cc)
  run_refused workers (run.New setup.TooMany) none many twice is = (many.0 refl, λ e. absurd cc)
  run_refused workers (run.New setup.Twice) none many twice is = (twice.0 refl, λ e. absurd cc)
  run_refused workers (run.New setup.NoMemory) none many twice is = (tt, λ e. absurd cc)
  run_refused workers run.Full none many twice is = ((is_fork workers.targets none.1 many.1 twice.1, is), λ e. absurd cc)
  run_refused workers run.NoMemory none many twice is = (tt, λ e. absurd cc)
  run_refused workers (run.Torn book) none many twice is = (is_fork workers.targets none.1 many.1 twice.1, is)

  -- what the program says of a fault is so
  pub told_so : (text : List ℕ) (fault : RunFault A) → IsTrueDriveFault text fault → IsDriveFault text (told fault)
  told_so text (whole.Text fault) is = is.0
  told_so text (whole.Torn book) is = (is.0, is.1, is.2, is.3.0)

-- an opening line, a line for each event and the last lines are what is printed of a log
pub is_printed : (log : Log) (core : Core) (first : Table) (empty begun told whole : List ℕ) → core ≡ core_of log → first ≡ log.opening → empty ≡ []
    → begun ≡ empty ++ ended (opening_text first) → told ≡ begun ++ posts_text log.opening 0 log.history log.replies → EndsWith core.table told whole → IsPrinted log whole
is_printed log core first empty begun told whole stands opens none front posts ends =
    let P : Table → Type 0 = λ t. IsEnding t ends.ending in
    let table : core.table ≡ table_of log = ap (λ (c : Core). c.table) stands in
    let alone : begun ≡ ended (opening_text log.opening) =
    front
    ∙ ap (λ (text : List ℕ). text ++ ended (opening_text first)) none
    ∙ ap (λ (t : Table). ended (opening_text t)) opens
    in
    record {
      ending = ends.ending;
      last = subst P table ends.right;
      spelled =
          ends.spelled
          ∙ ap (λ (t : Table). told ++ ending_lines t ends.ending) table
          ∙ ap (λ (text : List ℕ). text ++ ending_lines (table_of log) ends.ending) (posts ∙ ap (λ (text : List ℕ). text ++ posts_text log.opening 0 log.history log.replies) alone);
    }

-- what a fork that is done ends with is its listing
ends_right : RightListingsAreShort → (t : Table) (told whole : List ℕ) → EndsWith t told whole → is_finished t.rows ≡ true → is_succeeded t.rows ≡ false → EndsInRightListing t whole
ends_right short t told whole ends finished failed = go ends.ending ends.right ends.accepted ends.spelled
  where
    go : (ending : Ending) → IsEnding t ending → IsAccepted t ending → whole ≡ told ++ ending_lines t ending → EndsInRightListing t whole
    go Succeeded last accepted spelled = absurd (let came : is_succeeded t.rows ≡ true = last in let none : is_succeeded t.rows ≡ false = failed in cc)
    go (Unfinished branches) last accepted spelled = absurd (let ended : is_finished t.rows ≡ true = finished in let open_ : is_finished t.rows ≡ false = last.1 in cc)
    go (Listed ranks choice) last accepted spelled =
        let listed : List ℕ = listing_text (listing_of t ranks choice) in
        let added : List ℕ = added_lines (challenge_list t.rows choice) in
        record {
          front = told ++ added;
          listed = listed;
          joined = spelled ∙ sym (append_assoc told added listed);
          listing = record { finished = finished; failed = failed; ranks = ranks; choice = choice; ranking = last.2; chosen = last.3; spelled = refl };
          verdict = accepted.0;
          right = accepted.1;
          short = short listed accepted.0 accepted.1;
        }

pub run_ends_right : RightListingsAreShort → (log : Log) (core : Core) (told whole : List ℕ) → core ≡ core_of log → EndsWith core.table told whole → IsDone log → EndsInRightListing (table_of log) whole
run_ends_right short log core told whole stands ends done =
    let P : Table → Type 0 = λ t. EndsWith t told whole in
    let table : core.table ≡ table_of log = ap (λ (c : Core). c.table) stands in
    ends_right short (table_of log) told whole (subst P table ends) done.0 done.1

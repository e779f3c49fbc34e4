use Rattle.std.proofs.Common.{◌≡◌, sym, subst, List, true, false, Result, Ok, Err, IfOk}
use Rattle.fork_model.specs.Table.{Kind, Rules, Table, is_finished, is_succeeded}
use Rattle.fork_model.specs.Event.{Event}
use Rattle.fork_model.specs.Choice.{Choice, IsChoice}
use Rattle.fork_model.specs.History.{Target, opening, after}
use Rattle.fork_model.specs.Log.{Log, events_of}
use Rattle.fork_engine.specs.Interleaving.{IsInterleaving}
use Rattle.fork_engine.specs.Plain.{PlainScriptsEnd, LeastIsChosen, ChoosesLeast, EndsWithLeast, all_of}

pub ends_with_least : PlainScriptsEnd → LeastIsChosen → (kind : Kind) (rules : Rules) (targets : List Target) (scripts : List (List Event)) (log : Log)
    → log.opening ≡ opening kind rules targets → IsInterleaving scripts log.history → EndsWithLeast rules targets scripts log
ends_with_least end least kind rules targets scripts log opens mixed plain =
    let P : Table → Type 0 = λ t. (is_finished (after t 0 (events_of log.history)).rows ≡ true) × (is_succeeded (after t 0 (events_of log.history)).rows ≡ false)
    × ((choice : Choice) → IsChoice rules (after t 0 (events_of log.history)).rows choice → ChoosesLeast rules (all_of scripts) choice) in
    let e = end kind rules targets scripts log.history plain mixed in
    subst P (sym opens) (e.0, e.1, λ choice is. least kind rules targets scripts log.history choice plain mixed is)

pub both_ok : {X E : Type 0} → (P Q R : X → Type 0) (r : Result X E) → IfOk r P → IfOk r Q → ((x : X) → P x → Q x → R x) → IfOk r R
both_ok P Q R (Ok x) p q f = f x p q
both_ok P Q R (Err e) p q f = tt

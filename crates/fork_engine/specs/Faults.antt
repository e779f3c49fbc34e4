-- Why a run of workers gives no book, and what each cause says.
use Rattle.std.specs.Prelude.{◌≡◌, ◌<◌, ◌⊎◌, List, length, sum_by}
use Rattle.fork_model.specs.Table.{Kind, Rules}
use Rattle.fork_model.specs.Event.{Event}
use Rattle.fork_model.specs.Core.{most_strays}
use Rattle.fork_model.specs.History.{Target, opening}
use Rattle.fork_context.specs.declared.context.NewFault.{NewFault}
use Rattle.fork_model.specs.Log.{Log}
use Rattle.fork_engine.specs.Interleaving.{IsInterleaving}
use Rattle.fork_engine.specs.declared.fault.DriveFault.{DriveFault}
use Rattle.fork_engine.specs.declared.fault.DriveFault.TheVariants.{New, Full, NoMemory, Torn}

-- a fork opened with a kind, rules and targets that are not those given
abbrev pub IsOfOthers : Kind → Rules → List Target → Log → Type 0
IsOfOthers kind rules targets log =
    (k : Kind) × (r : Rules) × (others : List Target)
    × (log.opening ≡ opening k r others)
    × ((k ≡ kind) × (r ≡ rules) × (others ≡ targets) → ⊥)

abbrev pub IsTorn : Kind → Rules → List Target → List (List Event) → Log → Type 0
IsTorn kind rules targets scripts log = IsOfOthers kind rules targets log ⊎ (IsInterleaving scripts log.history → ⊥)

module _ {A : Type 0} where
  abbrev pub IsNew : NewFault → DriveFault A → Type 0
  IsNew fault (New other) = other ≡ fault
  IsNew fault Full = ⊥
  IsNew fault NoMemory = ⊥
  IsNew fault (Torn book) = ⊥

  -- full only where there are more events than a book takes; torn only with a book that is
  abbrev pub IsTrueFault : Kind → Rules → List Target → List (List Event) → DriveFault A → Type 0
  IsTrueFault kind rules targets scripts (New fault) = Unit {0}
  IsTrueFault kind rules targets scripts Full = most_strays < sum_by length scripts
  IsTrueFault kind rules targets scripts NoMemory = Unit {0}
  IsTrueFault kind rules targets scripts (Torn book) = IsTorn kind rules targets scripts book

  abbrev pub IsNoNew : DriveFault A → Type 0
  IsNoNew (New fault) = ⊥
  IsNoNew Full = Unit {0}
  IsNoNew NoMemory = Unit {0}
  IsNoNew (Torn book) = Unit {0}

  -- neither full nor torn
  abbrev pub IsNoTorn : DriveFault A → Type 0
  IsNoTorn (New fault) = Unit {0}
  IsNoTorn Full = ⊥
  IsNoTorn NoMemory = Unit {0}
  IsNoTorn (Torn book) = ⊥

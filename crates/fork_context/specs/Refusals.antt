-- What a refused event comes back in, and why a context is not made.
use Rattle.std.specs.Prelude.{◌≡◌, ◌<◌, ℕ, List, length, map, slice_get, Some}
use Rattle.fork_model.specs.Table.{most_targets}
use Rattle.fork_model.specs.History.{Target}
use Rattle.context_values.specs.declared.event.Event.{Event}
use Rattle.fork_context.specs.declared.context.PostError.{PostError}
use Rattle.fork_context.specs.declared.context.PostError.TheVariants.{Full, NoMemory}

module _ {A : Type 0} where
  abbrev pub returned : PostError A → Event A
  returned (Full event) = event
  returned (NoMemory event) = event

  abbrev pub IsFull : PostError A → Type 0
  IsFull (Full event) = Unit {0}
  IsFull (NoMemory event) = ⊥

abbrev pub keys_of_targets : List Target → List (List ℕ)
keys_of_targets targets = map (λ target. target.key) targets

-- two of the targets have one key
abbrev pub HasTwice : List Target → Type 0
HasTwice targets =
    (m : ℕ) × (n : ℕ) × (key : List ℕ)
    × (m < n)
    × (slice_get (keys_of_targets targets) m ≡ Some key)
    × (slice_get (keys_of_targets targets) n ≡ Some key)

abbrev pub IsTooMany : List Target → Type 0
IsTooMany targets = most_targets < length targets

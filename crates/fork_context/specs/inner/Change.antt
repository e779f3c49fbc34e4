-- What an event changes, as the program decides it once (RFC 3261 sections 9.1 and 16.7 to 16.10).
use Rattle.std.specs.Prelude.{◌≡◌, ℕ, Bool, true, false, slice_get}
use Rattle.fork_model.specs.Table.{Table, State, Rung, Ended, Silent, is_row, is_trying, is_open}
use Rattle.fork_model.specs.Step as step
use Rattle.fork_tree.specs.Tree.{is_uncancelled}
use Rattle.fork_tree.specs.declared.row.RowRef.{RowRef}
use Rattle.fork_context.specs.declared.effect.Effect.{Effect}
use Rattle.fork_context.specs.declared.effect.Effect.TheVariants as effect
use Rattle.fork_context.specs.declared.effect.Change.{Change}
use Rattle.fork_context.specs.declared.effect.Change.TheVariants as change
use Rattle.fork_context.specs.inner.StandIn.{tree_row}

-- what becomes of the row, as the definitions have it
abbrev pub effect_of : {A : Type 0} → Table → RowRef → ℕ → Effect A → step.Effect
effect_of t r at effect.Rings = step.moves (Rung false)
effect_of t r at effect.GetsCancel = step.moves (Rung true)
effect_of t r at effect.GivenUp = step.moves (Ended (Silent at))
effect_of t r at (effect.Assumed status) = step.assumed status at
effect_of t r at (effect.Answered answer) = step.answers t r.no (tree_row r) at answer.now

-- the CANCEL of its row is sent
abbrev pub cancels : {A : Type 0} → Effect A → Bool
cancels effect.Rings = false
cancels effect.GetsCancel = true
cancels effect.GivenUp = false
cancels (effect.Assumed status) = false
cancels (effect.Answered answer) = false

-- whether it may become of a row of this state
abbrev pub may_take : {A : Type 0} → Effect A → State → Bool
may_take effect.Rings state = is_trying state
may_take effect.GetsCancel state = is_uncancelled state
may_take effect.GivenUp state = is_open state
may_take (effect.Assumed status) state = is_open state
may_take (effect.Answered answer) state = is_open state

abbrev pub changed : {A : Type 0} → Table → ℕ → Change A → Table
changed t at change.Closes = record t { closed = true }
changed t at (change.Row r e) = step.with_effect t r.no (effect_of t r at e)

-- there is the row that changes, and it may
abbrev pub MayChange : {A : Type 0} → Table → Change A → Type 0
MayChange t change.Closes = Unit {0}
MayChange t (change.Row r e) = is_row (may_take e) (slice_get t.rows r.no) ≡ true

-- What is so of each effect: how it takes its row on, when it closes the table, and which rows it adds.
use Rattle.fork_context.proofs.Common.{◌≡◌, ℕ, Bool, true, false, List, Some, refl, slice_get, [], Offer, Row, Table, State, End, Silent, Idle, Trying, Rung, Ended, is_idle, is_trying, is_cancelled, is_ended, is_uncancelled, FinalAnswer, taking_at}
use Rattle.fork_context.proofs.Common.{fresh_rows, Effect, moves, answers, RowRef, tree_row, effect_of, may_take, common_steps, arith}
use Rattle.fork_model.proofs.laws.ChangeLemmas.{from_filter_map}
use Rattle.fork_context.specs.declared.effect.Effect as declared
use Rattle.fork_context.specs.declared.effect.Effect.TheVariants as effect

abbrev pub AllIdle : List Row → Type 0
AllIdle rows = (k : ℕ) (row : Row) → slice_get rows k ≡ Some row → is_idle row.state ≡ true

-- a row goes on to ring, its CANCEL sent or not, where it was not sent before, or it ends
abbrev pub GoesTo : State → State → Type 0
GoesTo was Idle = ⊥
GoesTo was Trying = ⊥
GoesTo was (Rung cancelled) = is_cancelled was ≡ false
GoesTo was (Ended end) = Unit {0}

-- it closes the table only where the row ends; the rows that it adds wait, and a closed table gets none
pub record EffectFacts (t : Table) (was : State) (e : Effect) : Type 0 where
  pub goes : GoesTo was e.state
  pub ends : e.closes ≡ true → is_ended e.state ≡ true
  pub waits : AllIdle e.fresh
  pub none : t.closed ≡ true → e.fresh ≡ []

rings : (t : Table) (was : State) (cancelled : Bool) → is_cancelled was ≡ false → EffectFacts t was (moves (Rung cancelled))
rings t was cancelled goes = record { goes = goes; ends = λ h. absurd cc; waits = λ k row is. absurd cc; none = λ done. refl }

ends_alone : (t : Table) (was : State) (end : End) (closes : Bool) → EffectFacts t was (record { state = Ended end; fresh = []; closes = closes })
ends_alone t was end closes = record { goes = tt; ends = λ h. refl; waits = λ k row is. absurd cc; none = λ done. refl }

fresh_idle : (n : ℕ) (fresh : List (ℕ × Offer)) → AllIdle (fresh_rows n fresh)
fresh_idle n fresh k row is = grind (arith, common_steps, from_filter_map)

none_taken : (t : Table) (n : ℕ) (row : Row) (answer : FinalAnswer) → t.closed ≡ true → fresh_rows n (taking_at t row answer.offers).fresh ≡ []
none_taken t n row answer done = grind arith

answered : (t : Table) (n : ℕ) (row : Row) (at : ℕ) (answer : FinalAnswer) (was : State) → EffectFacts t was (answers t n row at answer)
answered t n row at answer was = grind (arith, common_steps, ends_alone, fresh_idle, none_taken)

-- a row that passes a test that none passes whose CANCEL was sent
uncancelled : (test : State → Bool) → test (Rung true) ≡ false → (state : State) → test state ≡ true → is_cancelled state ≡ false
uncancelled test sent state e = grind arith

pub effect_facts : {A : Type 0} (t : Table) (r : RowRef) (at : ℕ) (e : declared.Effect A) (was : State) → may_take e was ≡ true → EffectFacts t was (effect_of t r at e)
effect_facts t r at effect.Rings was may = rings t was false (uncancelled is_trying refl was may)
effect_facts t r at effect.GetsCancel was may = rings t was true (uncancelled is_uncancelled refl was may)
effect_facts t r at effect.GivenUp was may = ends_alone t was (Silent at) false
effect_facts t r at (effect.Assumed status) was may = ends_alone t was _ false
effect_facts t r at (effect.Answered answer) was may = answered t r.no (tree_row r) at answer.now was

-- What a change is followed by, with the numbers of the reply in one list: those that are cancelled stand first.
use Rattle.fork_context.proofs.Common.{◌≡◌, ℕ, Bool, true, false, ◌||◌, List, [], ◌++◌, length, map, filter, arith, refl, sym, ap, subst, ◌∙◌, Table, numbers_below, gets_cancel}
use Rattle.std.proofs.Common.{take, drop, take_all, take_at, drop_at, inl, inr}
use Rattle.std.proofs.lemmas.List.{drop_all}
use Rattle.fork_context.specs.Closing.{closed_row}
use Rattle.fork_context.specs.inner.Ready.{AddsStarted, Starts, numbers_from}
use Rattle.fork_model.specs.Table.{Row}
use Rattle.fork_model.specs.Waiting.{may_start}
use Rattle.fork_tree.specs.Ready.{IsReady, tried}
use Rattle.std.proofs.Common.{Some, slice_get, append-nil}
use Rattle.fork_context.specs.inner.Stepped.{IsSettled, cancelled_at, number_if}

pub closed_before : (n : ℕ) (was_closed cancels : Bool) (u v : Table) (rows : List ℕ) (k : ℕ) → k ≡ length rows → was_closed ≡ true → v ≡ cancelled_at n u
    → rows ≡ number_if (gets_cancel u.kind u.rows n || cancels) n → IsSettled n was_closed cancels u v (drop k rows) (take k rows)
closed_before n was_closed cancels u v rows k all closed led numbers =
    inl (closed, led, drop_all k rows (omega arith), take_all k rows (omega arith) ∙ numbers)

pub closes_now : (n : ℕ) (was_closed cancels : Bool) (u v : Table) (rows : List ℕ) (k : ℕ) → k ≡ length rows → was_closed ≡ false → u.closed ≡ true
    → v ≡ record u { closed = true; rows = map (closed_row u.kind) u.rows } → rows ≡ filter (gets_cancel u.kind u.rows) (numbers_below (length u.rows))
    → IsSettled n was_closed cancels u v (drop k rows) (take k rows)
closes_now n was_closed cancels u v rows k all before closed led numbers =
    inr (inl (before, closed, led, drop_all k rows (omega arith), take_all k rows (omega arith) ∙ numbers))

pub goes_on : (n : ℕ) (was_closed cancels : Bool) (u v : Table) (front rows : List ℕ) (k : ℕ) → k ≡ length front → was_closed ≡ false → u.closed ≡ false
    → front ≡ number_if cancels n → AddsStarted u v front rows → IsSettled n was_closed cancels u v (drop k rows) (take k rows)
goes_on n was_closed cancels u v front rows k all was on numbers adds =
    let behind : drop k rows ≡ adds.started = ap (drop k) adds.joins ∙ drop_at front adds.started k (sym all) in
    let ahead : take k rows ≡ front = ap (take k) adds.joins ∙ take_at front adds.started k (sym all) in
    inr (inr (was, on, subst (λ (ns : List ℕ). Starts u v ns) (sym behind) adds.starts, ahead ∙ numbers))

pub some_started : (old new : Table) (before after : List ℕ) (first count : ℕ) → IsReady old.rows first count → new ≡ record old { rows = tried old.rows first count }
    → after ≡ before ++ numbers_from first count → AddsStarted old new before after
some_started old new before after first count ready led joins = record { started = numbers_from first count; joins = joins; starts = inr (first, count, refl, ready, led) }

pub none_started : (old new : Table) (before after : List ℕ) → new ≡ old → ((k : ℕ) (row : Row) → slice_get old.rows k ≡ Some row → may_start old.rows row ≡ false)
    → after ≡ before → AddsStarted old new before after
none_started old new before after same none kept = record { started = []; joins = kept ∙ sym (append-nil before); starts = inl (refl, same, none) }

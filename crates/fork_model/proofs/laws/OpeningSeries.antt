-- In the opening table the first group is tried, and all others wait for it.
use Rattle.fork_model.proofs.Common.{◌≡◌, ℕ, zero, suc, ◌<◌, Bool, true, false, List, [], ◌∷◌, map, Some, None, refl, ap, arith, ◌∙◌, sym, cond, inl, inr, ◌⊎◌, slice_get, ◌==◌, Row, Table, Idle, Trying, is_idle, is_ended, is_value, Event}
use Rattle.fork_model.proofs.Common.{in_earlier_group, parent_ended, may_start, next, Target, opening_rows, after, IsInSeries, rules}
use Rattle.fork_model.specs.Series.{OpeningIsInSeries, OneGroupStartsAtATime}
use Rattle.fork_model.proofs.laws.GroupLemmas.{first_place}
use Rattle.fork_model.proofs.laws.ChangeLemmas.{from_filter_map}
use Rattle.fork_model.proofs.laws.WaitingLemmas.{MayStart, may_start_facts, is_earlier, goes_by_group, has_rows}
use Rattle.fork_model.proofs.laws.SeriesLemmas.{keeps_series, one_group_starts}

-- an opening row stands under none, and it is tried just where its group is the first
pub record IsOpeningRow (row : Row) : Type 0 where
  pub parent : row.parent ≡ None
  pub state : row.state ≡ cond (row.group == 0) Trying Idle

pub opening_row : (targets : List Target) (m : ℕ) (row : Row) → slice_get (opening_rows targets) m ≡ Some row → IsOpeningRow row
opening_row targets m row is = grind (arith, from_filter_map)

target_at : (targets : List Target) (q place : ℕ) → is_value q (slice_get (map (λ (target : Target). target.q) targets) place) ≡ true
    → (target : Target) × (slice_get targets place ≡ Some target)
target_at [] q place e = absurd cc
target_at (target ∷ targets) q zero e = (target, refl)
target_at (target ∷ targets) q (suc place) e = target_at targets q place e

-- no rows, or one of group 0 at the head
abbrev pub HasFirst : List Row → Type 0
HasFirst rows = (rows ≡ []) ⊎ ((row : Row) × (rest : List Row) × (rows ≡ row ∷ rest) × (row.group ≡ 0))

pub has_first : (targets : List Target) → HasFirst (opening_rows targets)
has_first targets = grind (arith, first_place, target_at)

differ : {b : Bool} → b ≡ true → b ≡ false → ⊥
differ h k = cc

later_group : (group : ℕ) → is_idle (cond (group == 0) Trying Idle) ≡ true → 0 < group
later_group group e = grind arith

none_waits_opening : (targets : List Target) (m : ℕ) (row : Row) → slice_get (opening_rows targets) m ≡ Some row → may_start (opening_rows targets) row ≡ false
none_waits_opening targets m row is = go (has_first targets) (may_start (opening_rows targets) row) refl
  where
    waits : (head : Row) (rest : List Row) → opening_rows targets ≡ head ∷ rest → head.group ≡ 0 → MayStart (opening_rows targets) row → ⊥
    waits head rest made first may =
        let at : slice_get (opening_rows targets) 0 ≡ Some head = ap (λ (rows : List Row). slice_get rows 0) made in
        let one : IsOpeningRow head = opening_row targets 0 head at in
        let this : IsOpeningRow row = opening_row targets m row is in
        let less : 0 < row.group = later_group row.group (sym (ap is_idle this.state) ∙ may.idle) in
        let earlier : in_earlier_group head row ≡ true = is_earlier head row (one.parent ∙ sym this.parent) (omega arith) in
        let len = has_rows (opening_rows targets) m row is in
        let tried : head.state ≡ Trying = one.state ∙ ap (λ (g : ℕ). cond (g == 0) Trying Idle) first in
        differ (may.before 0 head at (goes_by_group (opening_rows targets) len.0 head row len.1 earlier)) (ap is_ended tried)

    go : HasFirst (opening_rows targets) → (b : Bool) → may_start (opening_rows targets) row ≡ b → may_start (opening_rows targets) row ≡ false
    go h false e = e
    go (inl none) true e = absurd (let there : slice_get {X = Row} [] m ≡ Some row = ap (λ (rows : List Row). slice_get rows m) (sym none) ∙ is in cc)
    go (inr h) true e = absurd (waits h.0 h.1 h.2 h.3 (may_start_facts (opening_rows targets) row e))

pub opening_in_series : OpeningIsInSeries
opening_in_series kind rules targets = record {
  parents = λ n row is. ap (parent_ended (opening_rows targets)) (opening_row targets n row is).parent;
  none_waits = none_waits_opening targets;
}

after_in_series : (t : Table) (at : ℕ) (events : List Event) → IsInSeries t → IsInSeries (after t at events)
after_in_series t at [] h = h
after_in_series t at (event ∷ events) h = after_in_series (next t event at) (suc at) events (keeps_series t event at h)

pub one_group_at_a_time : OneGroupStartsAtATime
one_group_at_a_time kind rules targets events event at = search (rules, one_group_starts, after_in_series, opening_in_series)

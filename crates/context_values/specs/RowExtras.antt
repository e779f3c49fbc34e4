-- The rows of a table, of which a tree keeps one part and a list beside it the other.
use Rattle.std.specs.Prelude.{ℕ, zero, suc, List, [], ◌∷◌, ◌++◌, Option, map, unwrap_or, slice_get}
use Rattle.std.specs.Option.{option_map, option_to_list}
use Rattle.fork_model.specs.History.{Target}
use Rattle.fork_model.specs.Table.{Offer, Challenge, End, Stored, Taken, Silent, Never, Accepted, State, Idle, Trying, Rung, Ended, Row}

-- the extras of a row: what identifies its target, the place that it came in at, and of its stored answer the contacts
-- left and the challenges
pub record RowExtras : Type 0 where
  pub key : List ℕ
  pub place : ℕ
  pub left : List Offer
  pub challenges : List Challenge

abbrev pub end_with_extras : End → RowExtras → End
end_with_extras (Stored answer) b = Stored (record answer { left = b.left; challenges = b.challenges })
end_with_extras (Taken arrival) b = Taken arrival
end_with_extras (Silent arrival) b = Silent arrival
end_with_extras Never b = Never
end_with_extras (Accepted arrival) b = Accepted arrival

abbrev pub state_with_extras : State → RowExtras → State
state_with_extras Idle b = Idle
state_with_extras Trying b = Trying
state_with_extras (Rung cancelled) b = Rung cancelled
state_with_extras (Ended end) b = Ended (end_with_extras end b)

abbrev pub row_with_extras : Row → RowExtras → Row
row_with_extras row b = record row { key = b.key; place = b.place; state = state_with_extras row.state b }

-- each row with its extras
abbrev pub with_extras : List Row → List RowExtras → List Row
with_extras [] extras = []
with_extras (row ∷ rows) [] = row ∷ with_extras rows []
with_extras (row ∷ rows) (b ∷ extras) = row_with_extras row b ∷ with_extras rows extras

-- the extras of row n, with the answer that is stored there
abbrev pub with_row_extras : List RowExtras → ℕ → List Offer → List Challenge → List RowExtras
with_row_extras [] n left challenges = []
with_row_extras (b ∷ extras) zero left challenges = record b { left = left; challenges = challenges } ∷ extras
with_row_extras (b ∷ extras) (suc n) left challenges = b ∷ with_row_extras extras n left challenges

-- the extras of the row of the contact at a place
abbrev pub row_extras_of : ℕ × Offer → RowExtras
row_extras_of f = record { key = unwrap_or f.1.key []; place = f.0; left = []; challenges = [] }

abbrev pub row_extras_at : List (ℕ × Offer) → ℕ × ℕ → Option RowExtras
row_extras_at fresh p = option_map row_extras_of (slice_get fresh p.1)

-- and then the extras of that row, if there is one
abbrev pub with_row_extras_at : List (ℕ × Offer) → ℕ × ℕ → List RowExtras → List RowExtras
with_row_extras_at fresh p extras = extras ++ option_to_list (row_extras_at fresh p)

-- the q of the contacts that become targets; that at a place; that of a numbered place
abbrev pub contact_qs : List (ℕ × Offer) → List ℕ
contact_qs fresh = map (λ f. f.1.q) fresh

abbrev pub q_at : List ℕ → ℕ → ℕ
q_at qs place = unwrap_or (slice_get qs place) 0

abbrev pub q_of_pair : List ℕ → ℕ × ℕ → ℕ
q_of_pair qs p = q_at qs p.1

-- the extras of the row of the target at a place
abbrev pub extras_of_target : ℕ → Target → RowExtras
extras_of_target place target = record { key = target.key; place = place; left = []; challenges = [] }

abbrev pub target_extras : List Target → ℕ × ℕ → Option RowExtras
target_extras targets p = option_map (extras_of_target p.1) (slice_get targets p.1)

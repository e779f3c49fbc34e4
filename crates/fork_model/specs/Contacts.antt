-- The contacts of a 3xx, taken as further targets or left to the caller (RFC 3261 sections 16.5 and 16.7
-- step 4: no target is added twice).
use Rattle.std.specs.Prelude.{ℕ, suc, ◌||◌, nat_lt, nat_eq, Bool, not, List, [], ◌∷◌, ◌++◌, Option, Some, None, map, length, unwrap_or, slice_get, if◌then◌else◌}
use Rattle.std.specs.List.{list_any, filter_map}
use Rattle.std.specs.Option.{option_map}
use Rattle.std.specs.Cmp.Lexicographic.{pointwise}
use Rattle.fork_model.specs.Table.{Offer, Row, Table, Idle, most_targets}
use Rattle.fork_model.specs.Groups.{numbered}
use Rattle.fork_model.specs.Waiting.{depth_of}

-- what becomes of one contact: it is a target already, it becomes one, or it is left
pub data ContactOutcome : Type 0 where
  Known : ContactOutcome
  Fresh : (key : List ℕ) → ContactOutcome
  Left : ContactOutcome

abbrev pub is_known : List (List ℕ) → List ℕ → Bool
is_known keys key = list_any (pointwise nat_eq key) keys

-- of a key that may be tried, where these are the keys of all targets
abbrev pub outcome_of_key : List (List ℕ) → List ℕ → ContactOutcome
outcome_of_key keys key =
    if is_known keys key then Known
    else (if nat_lt (length keys) most_targets then Fresh key
    else Left)

abbrev pub outcome_of : List (List ℕ) → Option (List ℕ) → ContactOutcome
outcome_of keys None = Left
outcome_of keys (Some key) = outcome_of_key keys key

-- the keys of all targets after a contact
abbrev pub keys_after : List (List ℕ) → ContactOutcome → List (List ℕ)
keys_after keys Known = keys
keys_after keys (Fresh key) = keys ++ key ∷ []
keys_after keys Left = keys

-- the contacts that become targets, each with its place in the answer, and those that are left
pub record ContactLists : Type 0 where
  pub fresh : List (ℕ × Offer)
  pub left : List Offer

abbrev pub with_outcome : ℕ → Offer → ContactOutcome → ContactLists → ContactLists
with_outcome place offer Known rest = rest
with_outcome place offer (Fresh key) rest = record rest { fresh = (place, offer) ∷ rest.fresh }
with_outcome place offer Left rest = record rest { left = offer ∷ rest.left }

-- the contacts from this place on, in order, each seen by the keys of all targets so far
abbrev pub taking_from : List (List ℕ) → ℕ → List Offer → ContactLists
taking_from keys place [] = record { fresh = []; left = [] }
taking_from keys place (offer ∷ offers) =
    with_outcome place offer (outcome_of keys offer.key)
    (taking_from (keys_after keys (outcome_of keys offer.key)) (suc place) offers)

abbrev pub keys_of : List Row → List (List ℕ)
keys_of rows = map (λ row. row.key) rows

-- the contacts of an answer to this row; a closed table takes none, nor does a row as deep as the rules allow
abbrev pub taking_at : Table → Row → List Offer → ContactLists
taking_at t row offers =
    if t.closed || not (nat_lt (depth_of t.rows row) t.rules.depth)
    then record { fresh = []; left = offers }
    else taking_from (keys_of t.rows) 0 offers

-- a new row under the row n, in this group
abbrev pub fresh_row : ℕ → ℕ → ℕ × Offer → Row
fresh_row n group fresh = record {
  key = unwrap_or fresh.1.key [];
  q = fresh.1.q;
  place = fresh.0;
  parent = Some n;
  group = group;
  state = Idle;
}

-- the new rows, grouped and numbered among themselves as initial targets are
abbrev pub fresh_rows : ℕ → List (ℕ × Offer) → List Row
fresh_rows n fresh =
    filter_map (λ p. option_map (λ f. fresh_row n p.0 f) (slice_get fresh p.1)) (numbered (map (λ f. f.1.q) fresh))

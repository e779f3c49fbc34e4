-- How many targets there are after an event, and in the opening table.
use Rattle.fork_model.proofs.Common.{◌≡◌, ℕ, zero, suc, ◌+◌, ◌<◌, ◌≤◌, true, List, [], ◌∷◌, ◌++◌, length, map, Option, Some, None, refl, ap, arith, length-append, slice_get, is_some, filter_map, option_map, cons_option, Row, Table, State, Offer}
use Rattle.fork_model.proofs.Common.{Event, FinalAnswer, ContactOutcome, Known, Fresh, Left, outcome_of, keys_after, with_outcome, taking_from, taking_at, fresh_rows, Effect, effect, answers, with_state, with_effect, change_at, change, Target}
use Rattle.fork_model.proofs.Common.{first_row, opening, Core, opening_core, core_offered, core_after, IsWithin, common_steps, rules}
use Rattle.fork_model.specs.Table.{most_targets}
use Rattle.fork_model.specs.Steps.{FewTargets, TargetsAreBounded, EachTargetHasARow, most_taken, TakenIsBounded}
use Rattle.fork_model.proofs.laws.GroupLemmas.{length_numbered, length_numbered_all, length-filter_map, AllPlaces, numbered_places}
use Rattle.fork_model.proofs.laws.StepLemmas.{progress_bounded, positions_bounded}

pub length-map : {X Y : Type 0} (f : X → Y) (xs : List X) → length (map f xs) ≡ length xs
length-map f [] = refl
length-map f (x ∷ xs) = ap suc (length-map f xs)

pub length-state : (rows : List Row) (n : ℕ) (state : State) → length (with_state rows n state) ≡ length rows
length-state [] n state = refl
length-state (row ∷ rows) zero state = refl
length-state (row ∷ rows) (suc n) state = ap suc (length-state rows n state)

-- a contact becomes a target only while there are fewer than may be tried
abbrev Fits : List (List ℕ) → ContactOutcome → Type 0
Fits keys Known = Unit {0}
Fits keys (Fresh key) = length keys < most_targets
Fits keys Left = Unit {0}

fits : (keys : List (List ℕ)) (key : Option (List ℕ)) → Fits keys (outcome_of keys key)
fits keys key = grind arith

taking_few : (keys : List (List ℕ)) (place : ℕ) (offers : List Offer) → length keys ≤ most_targets
    → length keys + length (taking_from keys place offers).fresh ≤ most_targets
taking_few keys place [] few = omega arith
taking_few keys place (offer ∷ offers) few =
    go (outcome_of keys offer.key) (fits keys offer.key) (λ known h. taking_few known (suc place) offers h)
  where
    go : (outcome : ContactOutcome) → Fits keys outcome
        → ((known : List (List ℕ)) → length known ≤ most_targets → length known + length (taking_from known (suc place) offers).fresh ≤ most_targets)
        → length keys + length (with_outcome place offer outcome (taking_from (keys_after keys outcome) (suc place) offers)).fresh ≤ most_targets
    go Known fit rest = rest keys few
    go Left fit rest = rest keys few
    go (Fresh key) fit rest =
        let more : length (keys ++ key ∷ []) ≡ length keys + 1 = length-append keys (key ∷ []) in
        let later : length (keys ++ key ∷ []) + length (taking_from (keys ++ key ∷ []) (suc place) offers).fresh ≤ most_targets = rest (keys ++ key ∷ []) (omega arith) in
        let all : length keys + suc (length (taking_from (keys ++ key ∷ []) (suc place) offers).fresh) ≤ most_targets = omega arith in
        all

length_fresh : (n : ℕ) (fresh : List (ℕ × Offer)) → length (fresh_rows n fresh) ≤ length fresh
length_fresh n fresh = grind (arith, common_steps, length-filter_map, length_numbered)

-- the effect's new rows have room
abbrev HasRoom : Table → Effect → Type 0
HasRoom t e = length t.rows + length e.fresh ≤ most_targets

taking_at_few : (t : Table) (row : Row) (offers : List Offer) → FewTargets t
    → length t.rows + length (taking_at t row offers).fresh ≤ most_targets
taking_at_few t row offers few = grind (arith, common_steps, taking_few)

answers_room : (t : Table) (n : ℕ) (row : Row) (at : ℕ) (answer : FinalAnswer) → FewTargets t → HasRoom t (answers t n row at answer)
answers_room t n row at answer few = grind (arith, taking_at_few, length_fresh)

abbrev MayHaveRoom : Table → Option Effect → Type 0
MayHaveRoom t None = Unit {0}
MayHaveRoom t (Some e) = HasRoom t e

effect_room : (t : Table) (row : Row) (at : ℕ) (event : Event) (state : State) → FewTargets t → MayHaveRoom t (effect t row at event state)
effect_room t row at event state few = grind (arith, answers_room)

few_with_effect : (t : Table) (n : ℕ) (e : Effect) → HasRoom t e → FewTargets (with_effect t n e)
few_with_effect t n e room = grind (arith, common_steps, length-state)

few_at : (t u : Table) (at : ℕ) (event : Event) (n : ℕ) (row : Option Row) → FewTargets t → change_at t at event n row ≡ Some u → FewTargets u
few_at t u at event n None few is = absurd cc
few_at t u at event n (Some row) few is = go (effect t row at event row.state) (effect_room t row at event row.state few) is
  where
    go : (e : Option Effect) → MayHaveRoom t e → option_map (with_effect t n) e ≡ Some u → FewTargets u
    go None room is = absurd cc
    go (Some e) room is =
        let made : with_effect t n e ≡ u = cc in
        let same : length (with_effect t n e).rows ≡ length u.rows = ap (λ (v : Table). length v.rows) made in
        let few' : length (with_effect t n e).rows ≤ most_targets = few_with_effect t n e room in
        omega (arith, same, few')

few_change : (t u : Table) (event : Event) (at : ℕ) → FewTargets t → change t event at ≡ Some u → FewTargets u
few_change t u event at few is = grind (arith, few_at)

pub targets_bounded : TargetsAreBounded
targets_bounded t event at few = grind (arith, common_steps, few_change)

-- each initial target has a row
some_target : (targets : List Target) (place : ℕ) → is_some (slice_get (map (λ (target : Target). target.q) targets) place) ≡ true
    → is_some (slice_get targets place) ≡ true
some_target [] place e = e
some_target (target ∷ targets) zero e = refl
some_target (target ∷ targets) (suc place) e = some_target targets place e

all_made : (targets : List Target) (ps : List (ℕ × ℕ)) → AllPlaces (map (λ (target : Target). target.q) targets) ps
    → length (filter_map (λ (p : ℕ × ℕ). option_map (first_row p.0 p.1) (slice_get targets p.1)) ps) ≡ length ps
all_made targets [] h = refl
all_made targets (p ∷ ps) h = grind (arith, common_steps, some_target targets p.1 h.0, all_made targets ps h.1)

pub each_target : EachTargetHasARow
each_target kind rules targets = grind (arith, common_steps, all_made, numbered_places, length_numbered_all)

-- ---- contexts

few_offered : (core : Core) (event : Event) → FewTargets core.table → FewTargets (core_offered core event).table
few_offered core event few = grind (arith, targets_bounded)

taken_after : (core : Core) (events : List Event) → IsWithin core → FewTargets core.table → (core_after core events).taken ≤ most_taken
taken_after core [] within few = grind (arith, progress_bounded)
taken_after core (event ∷ events) within few = grind (arith, taken_after (core_offered core event) events (positions_bounded core event within) (few_offered core event few))

pub taken_bounded : TakenIsBounded
taken_bounded kind rules targets events few = grind (arith, common_steps, each_target kind rules targets, taken_after)

-- Each row of a fork as it opens is for one of its targets.
use Rattle.fork_call.proofs.OpeningCommon.{◌≡◌, ◌∙◌, ℕ, Bool, zero, suc, ◌<◌, List, [], map, take, Option, Some, None, Result, Ok, Err, refl, ap, sym, subst, arith, IfOk, option_map, same_Some, Rules, Call, OpenedRequest, table_of, IsBegun, CandidateTarget}
use Rattle.fork_call.proofs.OpeningCommon.{targets_of, destination_of_row}
use Rattle.std.proofs.Common.{◌+◌, ◌∷◌, ◌++◌, length, drop, slice_get}
use Rattle.std.specs.List.{cons_option, filter_map}
use Rattle.std.specs.Option.{option_and_then}
use Rattle.std.proofs.lemmas.List.{map_push}
use Rattle.std.proofs.lemmas.Option.{slice_get_within}
use Rattle.fork_model.specs.Groups.{numbered}
use Rattle.fork_model.specs.History.{Target, first_row, opening_rows}
use Rattle.fork_model.specs.Table.{Kind, Row}
use Rattle.call_model.specs.Begun.{begun}
use Rattle.call_model.specs.OpenedRequest.{Destination, kind_of}
use Rattle.fork_model.specs.Log.{Log, opening_log}
use Rattle.fork_call.specs.Destinations.{AreDestinations, destination_to}

module _ {X Y : Type 0} (h : X → Option Y) (y : Y) where
  -- what is found came from somewhere
  came_from : (xs : List X) (n : ℕ) → slice_get (filter_map h xs) n ≡ Some y → (x : X) × (h x ≡ Some y)
  came_from [] n e = absurd cc
  came_from (x ∷ xs) n e = by (h x) refl n e (λ k f. came_from xs k f)
    where
      by : (o : Option Y) → h x ≡ o → (n : ℕ) → slice_get (cons_option o (filter_map h xs)) n ≡ Some y
          → ((k : ℕ) → slice_get (filter_map h xs) k ≡ Some y → (x : X) × (h x ≡ Some y)) → (x : X) × (h x ≡ Some y)
      by None p n e rest = rest n e
      by (Some z) p zero e rest = (x, p ∙ e)
      by (Some z) p (suc n) e rest = rest n e

abbrev row_at : List Target → ℕ × ℕ → Option Row
row_at targets p = option_map (first_row p.0 p.1) (slice_get targets p.1)

placed : (targets : List Target) (n : ℕ) (row : Row) → slice_get (opening_rows targets) n ≡ Some row → row.place < length targets
placed targets n row e =
    let from = came_from (row_at targets) row (numbered (map (λ (t : Target). t.q) targets)) n e in
    by from.0 (slice_get targets from.0.1) refl from.1
  where
    by : (p : ℕ × ℕ) (o : Option Target) → slice_get targets p.1 ≡ o → option_map (first_row p.0 p.1) o ≡ Some row → row.place < length targets
    by p None q e = absurd cc
    by p (Some t) q e =
        let at : p.1 ≡ row.place = ap (λ (r : Row). r.place) (same_Some _ _ e) in
        let P : ℕ → Type 0 = λ k. k < length targets in
        subst P at (slice_get_within targets p.1 t q)

many : (cs : List CandidateTarget) → length (targets_of cs) ≡ length cs
many [] = refl
many (c ∷ cs) = ap suc (many cs)

pub places : (cs : List CandidateTarget) (kind : Kind) (rules : Rules) (log : Log) → log ≡ opening_log kind rules (targets_of cs)
    → (n : ℕ) (row : Row) → slice_get (table_of log).rows n ≡ Some row → row.place < length cs
places cs kind rules log e n row f =
    let P : Log → Type 0 = λ l. slice_get (table_of l).rows n ≡ Some row in
    let Q : ℕ → Type 0 = λ k. row.place < k in
    subst Q (many cs) (placed (targets_of cs) n row (subst P e f))

-- ---- the destinations of the rows

named : (o : Option Row) (k : ℕ) → option_map (λ (row : Row). row.place) o ≡ Some k → (row : Row) × (o ≡ Some row) × (row.place ≡ k)
named None k e = absurd cc
named (Some row) k e = (row, refl, same_Some _ _ e)

pub place_within : (rows : List Row) (cs : List CandidateTarget) (n k : ℕ)
    → ((n : ℕ) (row : Row) → slice_get rows n ≡ Some row → row.place < length cs)
    → option_map (λ (row : Row). row.place) (slice_get rows n) ≡ Some k → k < length cs
place_within rows cs n k within e =
    let found = named (slice_get rows n) k e in
    let P : ℕ → Type 0 = λ x. x < length cs in
    subst P found.2 (within n found.0 found.1)

module _ {X Y : Type 0} (f : X → Y) where
  one_more : (xs : List X) (n : ℕ) (x : X) → slice_get xs n ≡ Some x → map f (take (n + 1) xs) ≡ map f (take n xs) ++ f x ∷ []
  one_more [] n x e = absurd cc
  one_more (y ∷ xs) zero x e = ap (λ (z : X). f z ∷ []) (same_Some _ _ e)
  one_more (y ∷ xs) (suc n) x e =
      let on : suc n + 1 ≡ suc (n + 1) = omega arith in
      ap (λ (k : ℕ). map f (take k (y ∷ xs))) on ∙ ap (λ (l : List Y). f y ∷ l) (one_more xs n x e)

pub destinations_more : (large : Bool) (cs : List CandidateTarget) (rows : List Row) (destinations new : List Destination) (n k : ℕ) (destination : Destination)
    → map Some destinations ≡ map (destination_of_row large cs) (take n rows) → new ≡ destinations ++ destination ∷ []
    → option_map (λ (row : Row). row.place) (slice_get rows n) ≡ Some k → option_and_then (destination_to large) (slice_get cs k) ≡ Some destination
    → map Some new ≡ map (destination_of_row large cs) (take (n + 1) rows)
destinations_more large cs rows destinations new n k destination so_far e at this =
    let found = named (slice_get rows n) k at in
    let of_row : destination_of_row large cs found.0 ≡ Some destination =
    ap (λ (x : ℕ). option_and_then (destination_to large) (slice_get cs x)) found.2 ∙ this in
    ap (map Some) e ∙ map_push Some destinations destination
    ∙ ap (λ (l : List (Option Destination)). l ++ Some destination ∷ []) so_far
    ∙ ap (λ (o : Option Destination). map (destination_of_row large cs) (take n rows) ++ o ∷ []) (sym of_row)
    ∙ sym (one_more (destination_of_row large cs) rows n found.0 found.1)

-- ---- how the call begins

pub as_many : {X Y : Type 0} (f : X → Option Y) (ys : List Y) (xs : List X) → map Some ys ≡ map f xs → length ys ≡ length xs
as_many f [] [] e = refl
as_many f [] (x ∷ xs) e = absurd cc
as_many f (y ∷ ys) [] e = absurd cc
as_many f (y ∷ ys) (x ∷ xs) e =
    let rest : map Some ys ≡ map f xs = ap (drop 1) e in
    ap suc (as_many f ys xs rest)

pub begun_so : {E : Type 0} (rules : Rules) (opened : OpenedRequest) (cs : List CandidateTarget) (destinations : List Destination) (log : Log) (kind : Kind)
    (r : Result Call E) → IfOk r (λ call. call ≡ begun opened log destinations) → log ≡ opening_log kind rules (targets_of cs) → kind ≡ kind_of opened
    → AreDestinations opened.large cs (table_of log).rows destinations → IfOk r (IsBegun rules opened cs)
begun_so rules opened cs destinations log kind (Err fault) e p q w = tt
begun_so rules opened cs destinations log kind (Ok call) e p q w =
    let whole : log ≡ opening_log (kind_of opened) rules (targets_of cs) = p ∙ ap (λ (k : Kind). opening_log k rules (targets_of cs)) q in
    let P : Log → Type 0 = λ l. AreDestinations opened.large cs (table_of l).rows destinations in
    (destinations, subst P whole w, e ∙ ap (λ (l : Log). begun opened l destinations) whole)

-- The locations of a user are targets of a request.
use Rattle.proxy_config.proofs.Common.{◌≡◌, ℕ, ◌+◌, ◌<◌, ◌≤◌, Bool, true, false, cond, List, [], ◌∷◌, ◌++◌, map, length, Some, refl, sym, ap, subst, ◌∙◌, arith, append_assoc, append-nil, inl, inr, is_reached_by, list_any, and_from, same_Some}
use Rattle.proxy_config.proofs.Common.{bytes_eq-Decides, most_targets, most_q, next_hop, Location, locations_of, is_same, MayFollow, KeepsFrom, all_append}
use Rattle.std.proofs.Common.{zero, suc}
use Rattle.std.specs.Prelude.{slice_get, ◌⊎◌, ◌||◌}
use Rattle.std.proofs.lemmas.Bool.{false≢true}
use Rattle.std.proofs.lemmas.List.{length-append, map-append}
use Rattle.std.proofs.lemmas.List.Elements.{filter-append}
use Rattle.std.proofs.lemmas.Option.{slice_get_within}
use Rattle.proxy_config.specs.Setup.{is_of_user, location_key, AreTargets, LocationsAreTargets}

get_last : {X : Type 0} (xs : List X) (x y : X) (n : ℕ) → slice_get (xs ++ x ∷ []) n ≡ Some y → (slice_get xs n ≡ Some y) ⊎ ((length xs ≤ n) × (x ≡ y))
get_last [] x y zero e = inr (omega arith, same_Some _ _ e)
get_last [] x y (suc n) e = absurd cc
get_last (z ∷ xs) x y zero e = inl e
get_last (z ∷ xs) x y (suc n) e = elim (get_last xs x y n e) [
  | inl h ↦ inl h
  | inr h ↦ inr (omega (arith, h.0), h.1)
]

abbrev HasHop : (streams : Bool) → Location → Type 0
HasHop streams location = is_reached_by streams (next_hop location) ≡ true

abbrev HasWeight : Location → Type 0
HasWeight location = location.q ≤ most_q

abbrev keys : List Location → List (List ℕ)
keys locations = map location_key locations

-- one more that is not there yet
one_more : (streams : Bool) (locations : List Location) (location : Location) → AreTargets streams locations → length locations < most_targets
    → ((m : ℕ) → slice_get (keys locations) m ≡ Some (location_key location) → ⊥) → HasHop streams location → HasWeight location
    → AreTargets streams (locations ++ location ∷ [])
one_more streams locations location h few new hop q = record {
  few = omega (arith, few, length-append locations (location ∷ []));
  apart = λ m n key before at_m at_n. apart_still m n key before (sym (ap (λ (ks : List (List ℕ)). slice_get ks m) split) ∙ at_m) (sym (ap (λ (ks : List (List ℕ)). slice_get ks n) split) ∙ at_n);
  hops = all_append (HasHop streams) locations (location ∷ []) h.hops (hop, tt);
  weights = all_append HasWeight locations (location ∷ []) h.weights (q, tt);
}
  where
    split : keys (locations ++ location ∷ []) ≡ keys locations ++ location_key location ∷ []
    split = map-append location_key locations (location ∷ [])

    apart_still : (m n : ℕ) (key : List ℕ) → m < n → slice_get (keys locations ++ location_key location ∷ []) m ≡ Some key → slice_get (keys locations ++ location_key location ∷ []) n ≡ Some key → ⊥
    apart_still m n key before at_m at_n =
        elim (get_last (keys locations) (location_key location) key m at_m) [
          | inl front_m ↦ elim (get_last (keys locations) (location_key location) key n at_n) [
            | inl front_n ↦ h.apart m n key before front_m front_n
            | inr last_n ↦ new m (front_m ∙ ap Some (sym last_n.1))
          ]
          | inr last_m ↦
              let within : n < length (keys locations ++ location_key location ∷ []) = slice_get_within (keys locations ++ location_key location ∷ []) n key at_n in
              let long : length (keys locations ++ location_key location ∷ []) ≡ length (keys locations) + 1 = length-append (keys locations) (location_key location ∷ []) in
              absurd (omega (arith, last_m.0, before, within, long))
        ]

or_false : (a b : Bool) → (a || b) ≡ false → (a ≡ false) × (b ≡ false)
or_false true b e = absurd cc
or_false false b e = (refl, e)

-- what no location before it is the same as is a new target of its user
is_new : (location : Location) (earlier : List Location) → list_any (is_same location) earlier ≡ false → (m : ℕ)
    → slice_get (keys (locations_of location.user earlier)) m ≡ Some (location_key location) → ⊥
is_new location [] none m at = absurd cc
is_new location (other ∷ earlier) none m at =
    let parts = or_false (is_same location other) (list_any (is_same location) earlier) none in
    one (is_of_user location.user other) refl parts.0 m at (λ n there. is_new location earlier parts.1 n there)
  where
    one : (b : Bool) → is_of_user location.user other ≡ b → is_same location other ≡ false → (m : ℕ)
        → slice_get (keys (cond b (other ∷ locations_of location.user earlier) (locations_of location.user earlier))) m ≡ Some (location_key location)
        → ((n : ℕ) → slice_get (keys (locations_of location.user earlier)) n ≡ Some (location_key location) → ⊥)
        → ⊥
    one true is differs zero at again =
        let same : location_key other ≡ location_key location = same_Some _ _ at in
        let yes : is_same location other ≡ true = and_from _ _ is ((bytes_eq-Decides (location_key other) (location_key location)).1 same) in
        absurd (false≢true (sym differs ∙ yes))
    one true is differs (suc n) at again = again n at
    one false is differs n at again = again n at

user_more : (streams : Bool) (user : List ℕ) (earlier : List Location) (location : Location) → AreTargets streams (locations_of user earlier) → MayFollow streams earlier location
    → AreTargets streams (locations_of user (earlier ++ location ∷ []))
user_more streams user earlier location h may =
    subst (AreTargets streams) (sym (filter-append (is_of_user user) earlier (location ∷ []))) (one (is_of_user user location) refl)
  where
    one : (b : Bool) → is_of_user user location ≡ b → AreTargets streams (locations_of user earlier ++ cond b (location ∷ []) [])
    one true is =
        let same : location.user ≡ user = (bytes_eq-Decides location.user user).0 is in
        let few : length (locations_of user earlier) < most_targets = subst (λ (u : List ℕ). length (locations_of u earlier) < most_targets) same may.few in
        let P : List ℕ → Type 0 = λ u. (m : ℕ) → slice_get (keys (locations_of u earlier)) m ≡ Some (location_key location) → ⊥ in
        one_more streams (locations_of user earlier) location h few (subst P same (is_new location earlier may.apart)) may.hop may.q
    one false is = subst (AreTargets streams) (sym (append-nil (locations_of user earlier))) h

user_all : (streams : Bool) (user : List ℕ) (earlier locations : List Location) → AreTargets streams (locations_of user earlier) → KeepsFrom streams earlier locations
    → AreTargets streams (locations_of user (earlier ++ locations))
user_all streams user earlier [] h kept = subst (λ (ls : List Location). AreTargets streams (locations_of user ls)) (sym (append-nil earlier)) h
user_all streams user earlier (location ∷ locations) h kept =
    subst (λ (ls : List Location). AreTargets streams (locations_of user ls)) (append_assoc earlier (location ∷ []) locations)
    (user_all streams user (earlier ++ location ∷ []) locations (user_more streams user earlier location h kept.0) kept.1)

none_yet : (streams : Bool) → AreTargets streams []
none_yet streams = record { few = omega arith; apart = λ m n key before at_m at_n. absurd cc; hops = tt; weights = tt }

pub locations_are_targets : LocationsAreTargets
locations_are_targets streams user locations kept = user_all streams user [] locations (none_yet streams) kept

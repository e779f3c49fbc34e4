-- Locations with another longest time: their users, their targets and their places stay as they are.
use Rattle.proxy_config.proofs.Common.{◌≡◌, ℕ, ◌<◌, Bool, true, false, cond, List, [], ◌∷◌, ◌++◌, map, length, Option, Some, refl, ap, sym, subst, ◌∙◌, list_any, option_map, most_targets}
use Rattle.proxy_config.proofs.Common.{KeepsFrom, Location, MayFollow, is_same, locations_of}
use Rattle.std.specs.Prelude.{slice_get, ◌||◌}
use Rattle.std.proofs.lemmas.List.{length-map, map-append}
use Rattle.std.proofs.lemmas.Option.{slice_get-map}
use Rattle.proxy_config.specs.Setup.{is_of_user, with_longest}
use Rattle.proxy_config.specs.inner.UserPlaces.{AreOf, places_of}
use Rattle.proxy_config.specs.declared.user_places.UserPlaces.{UserPlaces}

abbrev rung : ℕ → List Location → List Location
rung longest locations = map (with_longest longest) locations

-- a user has the same locations
same_user : (longest : ℕ) (user : List ℕ) (locations : List Location) → locations_of user (rung longest locations) ≡ rung longest (locations_of user locations)
same_user longest user [] = refl
same_user longest user (location ∷ locations) = one (is_of_user user location) (same_user longest user locations)
  where
    one : (b : Bool) → locations_of user (rung longest locations) ≡ rung longest (locations_of user locations)
        → cond b (with_longest longest location ∷ locations_of user (rung longest locations)) (locations_of user (rung longest locations))
        ≡ rung longest (cond b (location ∷ locations_of user locations) (locations_of user locations))
    one true rest = ap (λ (ls : List Location). with_longest longest location ∷ ls) rest
    one false rest = rest

same_any : (longest : ℕ) (location : Location) (earlier : List Location) → list_any (is_same (with_longest longest location)) (rung longest earlier) ≡ list_any (is_same location) earlier
same_any longest location [] = refl
same_any longest location (other ∷ earlier) = ap (λ (b : Bool). is_same location other || b) (same_any longest location earlier)

still_few : (longest : ℕ) (user : List ℕ) (earlier : List Location) → length (locations_of user earlier) < most_targets → length (locations_of user (rung longest earlier)) < most_targets
still_few longest user earlier few =
    let same : length (locations_of user (rung longest earlier)) ≡ length (locations_of user earlier) =
    ap (λ (ls : List Location). length ls) (same_user longest user earlier) ∙ length-map (locations_of user earlier) (with_longest longest) in
    subst (λ (n : ℕ). n < most_targets) (sym same) few

still_follows : (streams : Bool) (longest : ℕ) (earlier : List Location) (location : Location) → MayFollow streams earlier location → MayFollow streams (rung longest earlier) (with_longest longest location)
still_follows streams longest earlier location h = record {
  hop = h.hop;
  q = h.q;
  apart = same_any longest location earlier ∙ h.apart;
  few = still_few longest location.user earlier h.few;
}

-- each may follow those before it, as it did
pub still_keeps : (streams : Bool) (longest : ℕ) (earlier locations : List Location) → KeepsFrom streams earlier locations → KeepsFrom streams (rung longest earlier) (rung longest locations)
still_keeps streams longest earlier [] kept = tt
still_keeps streams longest earlier (location ∷ locations) kept = (
  still_follows streams longest earlier location kept.0,
  subst (λ (ls : List Location). KeepsFrom streams ls (rung longest locations)) (map-append (with_longest longest) earlier (location ∷ []))
      (still_keeps streams longest (earlier ++ location ∷ []) locations kept.1),
)

-- what stands at places stands there still
at_still : (longest : ℕ) (locations : List Location) (places : List ℕ) → map (slice_get (rung longest locations)) places ≡ map (option_map (with_longest longest)) (map (slice_get locations) places)
at_still longest locations [] = refl
at_still longest locations (place ∷ places) =
    ap (λ (o : Option Location). o ∷ map (slice_get (rung longest locations)) places) (slice_get-map (with_longest longest) locations place)
    ∙ ap (λ (os : List (Option Location)). option_map (with_longest longest) (slice_get locations place) ∷ os) (at_still longest locations places)

some_still : (longest : ℕ) (found : List Location) → map (option_map (with_longest longest)) (map Some found) ≡ map Some (rung longest found)
some_still longest [] = refl
some_still longest (location ∷ found) = ap (λ (os : List (Option Location)). Some (with_longest longest location) ∷ os) (some_still longest found)

pub still_listed : {A : Type 0} (longest : ℕ) (locations : List Location) (index : UserPlaces A) → AreOf locations index → AreOf (rung longest locations) index
still_listed longest locations index are user =
    at_still longest locations (places_of index user)
    ∙ ap (λ (os : List (Option Location)). map (option_map (with_longest longest)) os) (are user)
    ∙ some_still longest (locations_of user locations)
    ∙ ap (λ (ls : List Location). map Some ls) (sym (same_user longest user locations))

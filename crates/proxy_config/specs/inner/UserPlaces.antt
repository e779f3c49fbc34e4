-- The places of the users' locations, by user.
use Rattle.std.specs.Prelude.{◌≡◌, ◌≢◌, ℕ, Bool, false, List, [], ◌∷◌, ◌++◌, map, Option, Some, None, Vec, bytes_eq, slice_get}
use Rattle.std.specs.BTreeMap.{BTreeMap, get_by}
use Rattle.std.specs.Cmp.Lexicographic.{slice_cmp}
use Rattle.std.specs.List.{filter_map}
use Rattle.std.specs.Ordering.{nat_cmp}
use Rattle.proxy_config.specs.declared.user_places.UserPlaces.{UserPlaces}
use Rattle.proxy_config.specs.Setup.{Location, location_key, locations_of}

module _ {A : Type 0} where
  abbrev pub places_if : Option (Vec ℕ A) → List ℕ
  places_if None = []
  places_if (Some places) = places.items

  abbrev pub places_among : BTreeMap (Vec ℕ A) (Vec ℕ A) → List ℕ → List ℕ
  places_among places user = places_if (get_by (λ (other : Vec ℕ A). slice_cmp nat_cmp user other.items) places)

  -- the places of a user's locations, in their order
  abbrev pub places_of : UserPlaces A → List ℕ → List ℕ
  places_of index user = places_among index.places user

  abbrev pub IsSame : UserPlaces A → UserPlaces A → Type 0
  IsSame old new = (user : List ℕ) → places_of new user ≡ places_of old user

  -- a user has got one more place, and each other has those that it had
  abbrev pub IsAdded : List ℕ → ℕ → UserPlaces A → UserPlaces A → Type 0
  IsAdded user place old new = (places_of new user ≡ places_of old user ++ place ∷ []) × ((other : List ℕ) → other ≢ user → places_of new other ≡ places_of old other)

-- these stand at these places among the locations
abbrev pub AreAt : List Location → List ℕ → List Location → Type 0
AreAt locations places found = map (slice_get locations) places ≡ map Some found

-- for each user the places are those of its locations
abbrev pub AreOf : {A : Type 0} → List Location → UserPlaces A → Type 0
AreOf locations index = (user : List ℕ) → AreAt locations (places_of index user) (locations_of user locations)

-- the locations at these places
abbrev pub located : List Location → List ℕ → List Location
located locations places = filter_map (slice_get locations) places

-- the location at a place is one with this key, if there is one
abbrev pub has_key : List ℕ → Option Location → Bool
has_key key None = false
has_key key (Some location) = bytes_eq (location_key location) key

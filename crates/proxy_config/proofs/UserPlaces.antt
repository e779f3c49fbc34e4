-- The places of each user's locations, where one more location or place is added.
use Rattle.proxy_config.proofs.Common.{◌≡◌, ℕ, Bool, true, false, cond, List, [], ◌∷◌, ◌++◌, map, length, Option, Some, None, refl, sym, ap, subst, ◌∙◌, append-nil, list_any, bytes_eq-Decides, same_Some}
use Rattle.proxy_config.proofs.Common.{Location, next_hop, is_same, is_reached_by, locations_of, most_targets, not}
use Rattle.std.proofs.Common.{◌≢◌, Ordering, Vec, zero, suc}
use Rattle.std.specs.BTreeMap.{BTreeMap, get_by, is_at}
use Rattle.std.specs.Cmp.Lexicographic.{slice_cmp}
use Rattle.std.specs.List.{cons_option}
use Rattle.std.specs.Map.{IsKeyTest, AreApart, KeepsOthers}
use Rattle.std.specs.Ordering.{nat_cmp, is_eq, eq_by_cmp}
use Rattle.std.specs.Borrow.{Bor}
use Rattle.std.specs.Option.{option_copied}
use Rattle.std.specs.Prelude.{bytes_eq, nat_lt, slice_get, ◌&&◌, ◌||◌, IfNone, IfSome}
use Rattle.std.proofs.lemmas.List.{length-map, map-append}
use Rattle.std.proofs.lemmas.List.Elements.{filter-append}
use Rattle.std.proofs.lemmas.Map.Text.{is_eq-slice_cmp}
use Rattle.proxy_config.specs.Setup.{is_of_user, location_key}
use Rattle.proxy_config.specs.Parts.{may_follow}
use Rattle.proxy_config.specs.inner.UserPlaces.{places_if, places_among, places_of, AreAt, AreOf, IsAdded, IsSame, has_key, located}
use Rattle.proxy_config.specs.declared.user_places.UserPlaces.{UserPlaces}

-- ---- a map in which the value of one user changes

-- texts that differ do not compare equal, and those that do are one
not_equal : (xs ys : List ℕ) → xs ≢ ys → is_eq (slice_cmp nat_cmp xs ys) ≡ false
not_equal xs ys apart = is_eq-slice_cmp xs ys ∙ told _ (λ e. apart ((bytes_eq-Decides xs ys).0 e))
  where
    told : (b : Bool) → (b ≡ true → ⊥) → b ≡ false
    told true never = absurd (never refl)
    told false never = refl

equal : (xs ys : List ℕ) → is_eq (slice_cmp nat_cmp xs ys) ≡ true → xs ≡ ys
equal xs ys e = (bytes_eq-Decides xs ys).0 (sym (is_eq-slice_cmp xs ys) ∙ e)

true_false : true ≡ false → ⊥
true_false e = absurd cc

module _ {A : Type 0} where
  abbrev order : Vec ℕ A → Vec ℕ A → Ordering
  order x y = slice_cmp nat_cmp x.items y.items

  abbrev pub at : List ℕ → Vec ℕ A → Ordering
  at user other = slice_cmp nat_cmp user other.items

  is_test : (other : List ℕ) → IsKeyTest (eq_by_cmp order) (is_at (at other))
  is_test other x y e = ap (λ (text : List ℕ). is_eq (slice_cmp nat_cmp text y.items)) (equal other x.items e)

  are_apart : (user other : List ℕ) → other ≢ user → AreApart (is_at (at user)) (is_at (at other))
  are_apart user other apart key e = not_equal other key.items (λ same. apart (same ∙ sym (equal user key.items e)))

  pub others_stay : (old new : BTreeMap (Vec ℕ A) (Vec ℕ A)) (user : List ℕ) → KeepsOthers (eq_by_cmp order) (is_at (at user)) old.entries new.entries
      → (other : List ℕ) → other ≢ user → places_among new other ≡ places_among old other
  unfolding KeepsOthers
  others_stay old new user keeps other apart = ap places_if (keeps (is_at (at other)) (is_test other) (are_apart user other apart))

  -- a user who has places gets one more
  pub place_added : (old new : UserPlaces A) (user : List ℕ) (places more : Vec ℕ A) (place : ℕ) → get_by (at user) old.places ≡ Some places → get_by (at user) new.places ≡ Some more
      → more.items ≡ places.items ++ place ∷ [] → KeepsOthers (eq_by_cmp order) (is_at (at user)) old.places.entries new.places.entries → IsAdded user place old new
  place_added old new user places more place was is grown keeps = (
    ap places_if is ∙ grown ∙ ap (λ (ns : List ℕ). ns ++ place ∷ []) (sym (ap places_if was)),
    others_stay old.places new.places user keeps,
  )

  -- a user gets his first
  pub user_added : (old new : UserPlaces A) (user : List ℕ) (more : Vec ℕ A) (place : ℕ) → get_by (at user) old.places ≡ None → get_by (at user) new.places ≡ Some more
      → more.items ≡ place ∷ [] → KeepsOthers (eq_by_cmp order) (is_at (at user)) old.places.entries new.places.entries → IsAdded user place old new
  user_added old new user more place was is grown keeps = (
    ap places_if is ∙ grown ∙ ap (λ (ns : List ℕ). ns ++ place ∷ []) (sym (ap places_if was)),
    others_stay old.places new.places user keeps,
  )

  -- a user's places are written over with the same
  pub places_same : (old new : UserPlaces A) (user : List ℕ) (places more : Vec ℕ A) → get_by (at user) old.places ≡ Some places → get_by (at user) new.places ≡ Some more
      → more.items ≡ places.items → KeepsOthers (eq_by_cmp order) (is_at (at user)) old.places.entries new.places.entries → IsSame old new
  places_same old new user places more was is same keeps other = one (bytes_eq other user) refl
    where
      one : (b : Bool) → bytes_eq other user ≡ b → places_of new other ≡ places_of old other
      one true e =
          subst (λ (text : List ℕ). places_of new text ≡ places_of old text) (sym ((bytes_eq-Decides other user).0 e))
          (ap places_if is ∙ same ∙ sym (ap places_if was))
      one false e = others_stay old.places new.places user keeps other (λ same_text. true_false (sym ((bytes_eq-Decides other user).1 same_text) ∙ e))

-- ---- locations at places

some_only : (locations : List Location) (o : Option Location) (later : List (Option Location)) (found : List Location) → o ∷ later ≡ map Some found
    → (first : Location) × (rest : List Location) × (found ≡ first ∷ rest) × (o ≡ Some first) × (later ≡ map Some rest)
some_only locations o later [] e = absurd cc
some_only locations o later (first ∷ rest) e = (first, rest, refl, cc, cc)

-- what stands at places is told by them
pub located_is : (locations : List Location) (places : List ℕ) (found : List Location) → AreAt locations places found → located locations places ≡ found
located_is locations [] [] e = refl
located_is locations [] (first ∷ rest) e = absurd cc
located_is locations (place ∷ places) found e =
    let s = some_only locations (slice_get locations place) (map (slice_get locations) places) found e in
    ap (λ (o : Option Location). cons_option o (located locations places)) s.3
    ∙ ap (λ (ls : List Location). s.0 ∷ ls) (located_is locations places s.1 s.4)
    ∙ sym s.2

pub still_at : (locations : List Location) (places : List ℕ) (found : List Location) → AreAt locations places found → AreAt locations places (located locations places)
still_at locations places found e = subst (λ (ls : List Location). AreAt locations places ls) (sym (located_is locations places found e)) e

-- the first, and the others
pub first_located : (locations : List Location) (place : ℕ) (places : List ℕ) → AreAt locations (place ∷ places) (located locations (place ∷ places))
    → (first : Location) × (slice_get locations place ≡ Some first) × (located locations (place ∷ places) ≡ first ∷ located locations places) × AreAt locations places (located locations places)
first_located locations place places e =
    let s = some_only locations (slice_get locations place) (map (slice_get locations) places) (located locations (place ∷ places)) e in (
      s.0,
      s.3,
      ap (λ (o : Option Location). cons_option o (located locations places)) s.3,
      still_at locations places s.1 s.4,
    )

-- one by one
pub next_some : (locations : List Location) (places rest : List ℕ) (place : ℕ) (left : List Location) → places ≡ place ∷ rest → AreAt locations places (located locations places)
    → located locations places ≡ left → (o : Option (Bor Location)) → option_copied o ≡ slice_get locations place → IfSome o (λ location. left ≡ location.now ∷ located locations rest)
next_some locations places rest place left split at view None e = tt
next_some locations places rest place left split at view (Some location) e =
    let P : List ℕ → Type 0 = λ ns. AreAt locations ns (located locations ns) in
    let s = first_located locations place rest (subst P split at) in
    let same : s.0 ≡ location.now = same_Some _ _ (sym s.1 ∙ sym e) in
    sym view ∙ ap (λ (ns : List ℕ). located locations ns) split ∙ s.2 ∙ ap (λ (l : Location). l ∷ located locations rest) same

pub next_none : (locations : List Location) (places rest : List ℕ) (place : ℕ) (left : List Location) → places ≡ place ∷ rest → AreAt locations places (located locations places)
    → (o : Option (Bor Location)) → option_copied o ≡ slice_get locations place → IfNone o (left ≡ [])
next_none locations places rest place left split at None e =
    let P : List ℕ → Type 0 = λ ns. AreAt locations ns (located locations ns) in
    let s = first_located locations place rest (subst P split at) in
    let both : None ≡ Some s.0 = e ∙ s.1 in
    absurd cc
next_none locations places rest place left split at (Some location) e = tt

pub next_at : (locations : List Location) (places rest : List ℕ) (place : ℕ) → places ≡ place ∷ rest → AreAt locations places (located locations places)
    → AreAt locations rest (located locations rest)
next_at locations places rest place split at =
    let P : List ℕ → Type 0 = λ ns. AreAt locations ns (located locations ns) in
    (first_located locations place rest (subst P split at)).3

get_front : (locations behind : List Location) (place : ℕ) (location : Location) → slice_get locations place ≡ Some location → slice_get (locations ++ behind) place ≡ Some location
get_front [] behind place location e = absurd cc
get_front (l ∷ ls) behind zero location e = e
get_front (l ∷ ls) behind (suc n) location e = get_front ls behind n location e

get_end : (locations : List Location) (location : Location) → slice_get (locations ++ location ∷ []) (length locations) ≡ Some location
get_end [] location = refl
get_end (l ∷ ls) location = get_end ls location

-- they stand there also where more stands behind
at_front : (locations behind : List Location) (places : List ℕ) (found : List Location) → AreAt locations places found → AreAt (locations ++ behind) places found
at_front locations behind [] found e = e
at_front locations behind (place ∷ places) found e =
    let s = some_only locations (slice_get locations place) (map (slice_get locations) places) found e in
    subst (λ (ls : List Location). AreAt (locations ++ behind) (place ∷ places) ls) (sym s.2)
    (ap (λ (o : Option Location). o ∷ map (slice_get (locations ++ behind)) places) (get_front locations behind place s.0 s.3)
    ∙ ap (λ (os : List (Option Location)). Some s.0 ∷ os) (at_front locations behind places s.1 s.4))

at_end : (locations : List Location) (location : Location) (places : List ℕ) (found : List Location) → AreAt locations places found
    → AreAt (locations ++ location ∷ []) (places ++ length locations ∷ []) (found ++ location ∷ [])
at_end locations location places found e =
    map-append (slice_get (locations ++ location ∷ [])) places (length locations ∷ [])
    ∙ ap (λ (os : List (Option Location)). os ++ slice_get (locations ++ location ∷ []) (length locations) ∷ []) (at_front locations (location ∷ []) places found e)
    ∙ ap (λ (o : Option Location). map Some found ++ o ∷ []) (get_end locations location)
    ∙ sym (map-append Some found (location ∷ []))

-- ---- what may follow

any_at : (locations : List Location) (key : List ℕ) (places : List ℕ) (found : List Location) → AreAt locations places found
    → list_any (λ place. has_key key (slice_get locations place)) places ≡ list_any (λ location. bytes_eq (location_key location) key) found
any_at locations key [] [] e = refl
any_at locations key [] (first ∷ rest) e = absurd cc
any_at locations key (place ∷ places) found e =
    let s = some_only locations (slice_get locations place) (map (slice_get locations) places) found e in
    ap (λ (o : Option Location). has_key key o || list_any (λ place. has_key key (slice_get locations place)) places) s.3
    ∙ ap (λ b. bytes_eq (location_key s.0) key || b) (any_at locations key places s.1 s.4)
    ∙ ap (λ (ls : List Location). list_any (λ location. bytes_eq (location_key location) key) ls) (sym s.2)

as_many_at : (locations : List Location) (places : List ℕ) (found : List Location) → AreAt locations places found → length places ≡ length found
as_many_at locations places found e =
    sym (length-map places (slice_get locations)) ∙ ap (λ (os : List (Option Location)). length os) e ∙ length-map found Some

pub any_same : (location : Location) (locations : List Location)
    → list_any (λ other. bytes_eq (location_key other) (location_key location)) (locations_of location.user locations) ≡ list_any (is_same location) locations
any_same location [] = refl
any_same location (other ∷ locations) = one (is_of_user location.user other) (any_same location locations)
  where
    one : (b : Bool) → list_any (λ l. bytes_eq (location_key l) (location_key location)) (locations_of location.user locations) ≡ list_any (is_same location) locations
        → list_any (λ l. bytes_eq (location_key l) (location_key location)) (cond b (other ∷ locations_of location.user locations) (locations_of location.user locations))
        ≡ ((b && bytes_eq (location_key other) (location_key location)) || list_any (is_same location) locations)
    one true rest = ap (λ t. bytes_eq (location_key other) (location_key location) || t) rest
    one false rest = rest

abbrev may_get : Bool → ℕ → Bool
may_get is_there count = not is_there && nat_lt count most_targets

-- what may follow is told by the places of the user's locations
pub may_follow_by : {A : Type 0} (streams : Bool) (locations : List Location) (location : Location) (index : UserPlaces A) → AreOf locations index → is_reached_by streams (next_hop location) ≡ true
    → (user key : List ℕ) → user ≡ location.user → key ≡ location_key location → (places : List ℕ) → places ≡ places_of index user
    → (has : Bool) → has ≡ list_any (λ place. has_key key (slice_get locations place)) places → (count : ℕ) → count ≡ length places
    → (may : Bool) → may ≡ (not has && nat_lt count most_targets) → may ≡ may_follow streams locations location
may_follow_by streams locations location index are hop user key user_is key_is places places_are has has_is count count_is may is =
    let found : AreAt locations places (locations_of location.user locations) =
    subst (λ (ns : List ℕ). AreAt locations ns (locations_of location.user locations)) (sym (places_are ∙ ap (λ (text : List ℕ). places_of index text) user_is)) (are location.user) in
    is
    ∙ ap (λ b. may_get b count)
    (has_is
    ∙ any_at locations key places (locations_of location.user locations) found
    ∙ ap (λ (text : List ℕ). list_any (λ other. bytes_eq (location_key other) text) (locations_of location.user locations)) key_is
    ∙ any_same location locations)
    ∙ ap (λ (n : ℕ). may_get (list_any (is_same location) locations) n) (count_is ∙ as_many_at locations places (locations_of location.user locations) found)
    ∙ sym (ap (λ b. b && not (list_any (is_same location) locations) && nat_lt (length (locations_of location.user locations)) most_targets) hop)

-- ---- one more location

mine_added : (location : Location) (locations : List Location) → locations_of location.user (locations ++ location ∷ []) ≡ locations_of location.user locations ++ location ∷ []
mine_added location locations =
    filter-append (is_of_user location.user) locations (location ∷ []) ∙ ap (λ b. locations_of location.user locations ++ cond b (location ∷ []) []) ((bytes_eq-Decides location.user location.user).1 refl)

others_added : (user : List ℕ) (location : Location) (locations : List Location) → is_of_user user location ≡ false → locations_of user (locations ++ location ∷ []) ≡ locations_of user locations
others_added user location locations apart =
    filter-append (is_of_user user) locations (location ∷ []) ∙ ap (λ b. locations_of user locations ++ cond b (location ∷ []) []) apart ∙ append-nil (locations_of user locations)

pub one_listed : {A : Type 0} (locations : List Location) (location : Location) (old new : UserPlaces A) → AreOf locations old → IsAdded location.user (length locations) old new
    → AreOf (locations ++ location ∷ []) new
one_listed locations location old new are added user = one (is_of_user user location) refl
  where
    one : (b : Bool) → is_of_user user location ≡ b → AreAt (locations ++ location ∷ []) (places_of new user) (locations_of user (locations ++ location ∷ []))
    one true is =
        let same : location.user ≡ user = (bytes_eq-Decides location.user user).0 is in
        subst (λ (text : List ℕ). AreAt (locations ++ location ∷ []) (places_of new text) (locations_of text (locations ++ location ∷ []))) same
        (ap (map (slice_get (locations ++ location ∷ []))) added.0
        ∙ at_end locations location (places_of old location.user) (locations_of location.user locations) (are location.user)
        ∙ ap (map Some) (sym (mine_added location locations)))
    one false is =
        let apart : user ≢ location.user = λ e. true_false (sym ((bytes_eq-Decides location.user user).1 (sym e)) ∙ is) in
        ap (map (slice_get (locations ++ location ∷ []))) (added.1 user apart)
        ∙ at_front locations (location ∷ []) (places_of old user) (locations_of user locations) (are user)
        ∙ ap (map Some) (sym (others_added user location locations is))

pub one_listed_by : {A : Type 0} (locations : List Location) (location : Location) (old new : UserPlaces A) → AreOf locations old → (user : List ℕ) → user ≡ location.user
    → (place : ℕ) → place ≡ length locations → IsAdded user place old new → (listed : List Location) → listed ≡ locations ++ location ∷ [] → AreOf listed new
one_listed_by locations location old new are user user_is place place_is added listed is =
    let P : List ℕ → Type 0 = λ text. IsAdded text place old new in
    let Q : ℕ → Type 0 = λ n. IsAdded location.user n old new in
    subst (λ (ls : List Location). AreOf ls new) (sym is) (one_listed locations location old new are (subst Q place_is (subst P user_is added)))

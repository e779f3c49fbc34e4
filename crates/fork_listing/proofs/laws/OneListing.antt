-- A table whose stored answers arrived apart has one listing.
use Rattle.fork_listing.proofs.Common.{◌≡◌, ℕ, zero, suc, ◌<◌, List, [], ◌∷◌, Some, refl, sym, subst, ◌∙◌, arith, slice_get, Rules, Table, Before, Before-trans, AreArrivals, NoAnswer408, Ranked, score_of, IsRanking, targets_of, listing_of, some_same}
use Rattle.fork_listing.proofs.Common.{none_some, ListedAreStored, common_steps}
use Rattle.fork_model.proofs.laws.Headline.{one_choice}
use Rattle.fork_model.proofs.laws.OrderLemmas.{Before-irrefl}
use Rattle.fork_listing.specs.One.{OneRanking, OneListing}
use Rattle.fork_listing.proofs.ListedForks.{in_order, all_listed}
use Rattle.fork_listing.proofs.Meanings.{listed, ranked}

-- ---- two lists in one strict order that hold the same are one

abbrev Has : List Ranked → Ranked → Type 0
Has xs r = (k : ℕ) × (slice_get xs k ≡ Some r)

module _ (rules : Rules) where
  abbrev Ordered : List Ranked → Type 0
  Ordered xs = (j k : ℕ) (a b : Ranked) → j < k → slice_get xs j ≡ Some a → slice_get xs k ≡ Some b → Before rules (score_of a) (score_of b)

  behind : (x : Ranked) (xs : List Ranked) → Ordered (x ∷ xs) → (r : Ranked) → Has xs r → Before rules (score_of x) (score_of r)
  behind x xs order r h = order 0 (suc h.0) x r (omega arith) refl h.1

  heads : (x y : Ranked) (xs ys : List Ranked) → Ordered (x ∷ xs) → Ordered (y ∷ ys) → Has (y ∷ ys) x → Has (x ∷ xs) y → x ≡ y
  heads x y xs ys a b (zero, h) k = sym (some_same h)
  heads x y xs ys a b (suc m, h) (zero, k) = some_same k
  heads x y xs ys a b (suc m, h) (suc n, k) =
      absurd (Before-irrefl rules (score_of x) (Before-trans rules (score_of x) (score_of y) (score_of x) (behind x xs a y (n, k)) (behind y ys b x (m, h))))

  -- what stands behind the head of the one stands behind that of the other
  rests : (x y : Ranked) (xs ys : List Ranked) → Ordered (x ∷ xs) → x ≡ y → ((r : Ranked) → Has (x ∷ xs) r → Has (y ∷ ys) r)
      → (r : Ranked) → Has xs r → Has ys r
  rests x y xs ys order same has r h = go (has r (suc h.0, h.1))
    where
      go : Has (y ∷ ys) r → Has ys r
      go (zero, is) =
          absurd (Before-irrefl rules (score_of x)
          (subst (λ (z : Ranked). Before rules (score_of x) (score_of z)) (sym (same ∙ some_same is)) (behind x xs order r h)))
      go (suc k, is) = (k, is)

  same_list : (xs ys : List Ranked) → Ordered xs → Ordered ys → ((r : Ranked) → Has xs r → Has ys r) → ((r : Ranked) → Has ys r → Has xs r) → xs ≡ ys
  same_list [] [] a b f g = refl
  same_list [] (y ∷ ys) a b f g = absurd (none_some (g y (0, refl)).1)
  same_list (x ∷ xs) [] a b f g = absurd (none_some (f x (0, refl)).1)
  same_list (x ∷ xs) (y ∷ ys) a b f g =
      let first : x ≡ y = heads x y xs ys a b (f x (0, refl)) (g y (0, refl)) in
      let rest : xs ≡ ys = same_list xs ys (λ j k u v lt. a (suc j) (suc k) u v (omega arith)) (λ j k u v lt. b (suc j) (suc k) u v (omega arith))
      (rests x y xs ys a first f) (rests y x ys xs b (sym first) g) in
      (λ i. first i ∷ rest i)

-- ---- two rankings of one table

module _ (t : Table) (at : ℕ) (arrivals : AreArrivals t.rows at) where
  -- the choice has no part in these
  holds : (xs : List Ranked) → IsRanking t.rules (targets_of t.rows) xs → ListedAreStored (listing_of t xs NoAnswer408)
  holds xs r = listed (listing_of t xs NoAnswer408) (in_order t at xs NoAnswer408 arrivals r) (all_listed t at xs NoAnswer408 arrivals r)

  order : (xs : List Ranked) → IsRanking t.rules (targets_of t.rows) xs → Ordered t.rules xs
  order xs r j k a b lt x y = ranked (listing_of t xs NoAnswer408) (in_order t at xs NoAnswer408 arrivals r) k j a b lt x y

pub one_ranking : OneRanking
one_ranking t at a b arrivals x y =
    same_list t.rules a b (order t at arrivals a x) (order t at arrivals b y)
    (λ r h. (holds t at arrivals b y r).1 ((holds t at arrivals a x r).0 h)) (λ r h. (holds t at arrivals a x r).1 ((holds t at arrivals b y r).0 h))

pub one_listing : OneListing
one_listing t at a b arrivals x y = grind (arith, common_steps, one_ranking, one_choice)

use Rattle.call_model.proofs.Common.{◌≡◌, ◌⊎◌, ℕ, zero, suc, inl, inr, ap, refl, sym, subst, List, [], ◌∷◌, ◌++◌, map, Option, Some, slice_get, Event, Reply, Row, added, MessageText, ContactText, Destination, Branch, Call}
use Rattle.call_model.proofs.Common.{found, nth_branch, set_branch, with_branch, IsBuilt, IsBuiltBranch, Posts, gone_on, owes, owed_by, no_branch, call_tag}

-- ---- the part at a place

at_with : (branches : List (Option Branch)) (n m : ℕ) (branch l : Branch) → found (slice_get (with_branch branches n branch) m) ≡ Some l
    → ((m ≡ n) × (l ≡ branch)) ⊎ (found (slice_get branches m) ≡ Some l)
at_with [] n m branch l e = inr e
at_with (x ∷ branches) zero zero branch l e = inl (refl, let h : Some branch ≡ Some l = e in cc)
at_with (x ∷ branches) zero (suc m) branch l e = inr e
at_with (x ∷ branches) (suc n) zero branch l e = inr e
at_with (x ∷ branches) (suc n) (suc m) branch l e = up (at_with branches n m branch l e)
  where
    up : ((m ≡ n) × (l ≡ branch)) ⊎ (found (slice_get branches m) ≡ Some l) → ((suc m ≡ suc n) × (l ≡ branch)) ⊎ (found (slice_get branches m) ≡ Some l)
    up (inl p) = inl (ap suc p.0, p.1)
    up (inr q) = inr q

pub at_more : (branches : List (Option Branch)) (rows : List Row) (m : ℕ) (l : Branch) → found (slice_get (branches ++ map no_branch rows) m) ≡ Some l → found (slice_get branches m) ≡ Some l
at_more [] [] m l e = e
at_more [] (row ∷ rows) zero l e = absurd cc
at_more [] (row ∷ rows) (suc m) l e = at_more [] rows m l e
at_more (x ∷ branches) rows zero l e = e
at_more (x ∷ branches) rows (suc m) l e = at_more branches rows m l e

pub destination_more : (destinations more : List Destination) (m : ℕ) (destination : Destination) → slice_get destinations m ≡ Some destination → slice_get (destinations ++ more) m ≡ Some destination
destination_more [] more m destination e = absurd cc
destination_more (w ∷ destinations) more zero destination e = e
destination_more (w ∷ destinations) more (suc m) destination e = destination_more destinations more m destination e

pub at_or : (branches : List (Option Branch)) (n k : ℕ) (branch : Branch) → (k ≡ n) ⊎ (found (slice_get (with_branch branches n branch) k) ≡ found (slice_get branches k))
at_or [] n k branch = inr refl
at_or (x ∷ branches) zero zero branch = inl refl
at_or (x ∷ branches) zero (suc k) branch = inr refl
at_or (x ∷ branches) (suc n) zero branch = inr refl
at_or (x ∷ branches) (suc n) (suc k) branch = up (at_or branches n k branch)
  where
    up : (k ≡ n) ⊎ (found (slice_get (with_branch branches n branch) k) ≡ found (slice_get branches k)) → (suc k ≡ suc n) ⊎ (found (slice_get (with_branch branches n branch) k) ≡ found (slice_get branches k))
    up (inl e) = inl (ap suc e)
    up (inr e) = inr e

pub here_with : (branches : List (Option Branch)) (n : ℕ) (old branch : Branch) → found (slice_get branches n) ≡ Some old → found (slice_get (with_branch branches n branch) n) ≡ Some branch
here_with [] n old branch e = absurd cc
here_with (x ∷ branches) zero old branch e = refl
here_with (x ∷ branches) (suc n) old branch e = here_with branches n old branch e

pub branch_more : (branches : List (Option Branch)) (rows : List Row) (k : ℕ) → found (slice_get (branches ++ map no_branch rows) k) ≡ found (slice_get branches k)
branch_more [] [] k = refl
branch_more [] (row ∷ rows) zero = refl
branch_more [] (row ∷ rows) (suc k) = branch_more [] rows k
branch_more (x ∷ branches) rows zero = refl
branch_more (x ∷ branches) rows (suc k) = branch_more branches rows k

-- ---- the whole

pub built_branch : (call : Call) (n : ℕ) (branch : Branch) → IsBuilt call → (destination : Destination) → slice_get call.destinations n ≡ Some destination → IsBuiltBranch call n destination branch → IsBuilt (set_branch call n branch)
built_branch call n branch built destination goes is = record { branches = λ m l e. one m l (at_with call.branches n m branch l e) }
  where
    one : (m : ℕ) (l : Branch) → ((m ≡ n) × (l ≡ branch)) ⊎ (found (slice_get call.branches m) ≡ Some l)
        → (w : Destination) × (slice_get call.destinations m ≡ Some w) × IsBuiltBranch (set_branch call n branch) m w l
    one m l (inl p) =
        let P : ℕ → Type 0 = λ k. (w : Destination) × (slice_get call.destinations k ≡ Some w) × IsBuiltBranch (set_branch call n branch) k w l in
        let Q : Branch → Type 0 = λ x. (w : Destination) × (slice_get call.destinations n ≡ Some w) × IsBuiltBranch (set_branch call n branch) n w x in
        subst P (sym p.0) (subst Q (sym p.1) (destination, goes, record { request = is.request; cancel = is.cancel }))
    one m l (inr e) = let f = built.branches m l e in (f.0, f.1, record { request = f.2.request; cancel = f.2.cancel })

pub built_posts : (call new : Call) (event : Event) (contacts : List ContactText) (response : Option MessageText) (reply : Reply) → IsBuilt call → Posts call event contacts response reply new → IsBuilt new
built_posts call new event contacts response reply built posts = subst IsBuilt (sym posts.follows) (record { branches = one })
  where
    one : (m : ℕ) (l : Branch) → nth_branch (owes (gone_on call contacts (added call.log call_tag event reply)) (owed_by reply.up response)) m ≡ Some l
        → (w : Destination) × (slice_get (owes (gone_on call contacts (added call.log call_tag event reply)) (owed_by reply.up response)).destinations m ≡ Some w)
        × IsBuiltBranch (owes (gone_on call contacts (added call.log call_tag event reply)) (owed_by reply.up response)) m w l
    one m l e =
        let f = built.branches m l (at_more call.branches _ m l e) in
        (f.0, destination_more call.destinations _ m f.0 f.1, record { request = f.2.request; cancel = f.2.cancel })

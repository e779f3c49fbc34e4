-- A row lies below another one where its path goes on from the other's.
use Rattle.fork_tree.proofs.Common.{◌≡◌, ℕ, zero, suc, ◌+◌, ◌*◌, ◌<◌, ◌≤◌, ◌||◌, true, false, List, [], ◌∷◌, ◌++◌, length, Option, Some, None, slice_get, refl, ap, sym, ◌∙◌, arith, append_assoc, length-append, eqb, eq-eqb, eqb-true, append-nil}
use Rattle.fork_tree.proofs.Common.{NodePlace, Entry, above, path_at, path_to, path_of, rows_from, rows_of, IsPlaced, AreOlder, parent_of, from_parent, leads, lies_below, there_at, nil_from_length, common_steps}
use Rattle.fork_tree.proofs.Traces.{path_below, path_top}
use Rattle.fork_tree.proofs.Placed.{paths_differ}

abbrev pub place_parent : Option NodePlace → Option ℕ
place_parent None = None
place_parent (Some p) = p.parent

abbrev pub up_of : List NodePlace → ℕ → Option ℕ
up_of all k = place_parent (slice_get all k)

-- ---- rows have the parents of their places

parent_same : (all : List NodePlace) (root : List Entry) (k : ℕ) (ps : List NodePlace) (i : ℕ) → parent_of (slice_get (rows_from all root k ps) i) ≡ place_parent (slice_get ps i)
parent_same all root k [] i = refl
parent_same all root k (x ∷ ps) zero = grind arith
parent_same all root k (x ∷ ps) (suc i) = parent_same all root (suc k) ps i

leads_same : (f g : ℕ → Option ℕ) (n steps m : ℕ) → ((k : ℕ) → f k ≡ g k) → leads f n steps m ≡ leads g n steps m
leads_same f g n zero m h = refl
leads_same f g n (suc steps) m h = grind arith

pub lies_same : (all : List NodePlace) (root : List Entry) (n m : ℕ) → lies_below (rows_of all root) n m ≡ leads (up_of all) n m m
lies_same all root n m = leads_same (λ k. parent_of (slice_get (rows_of all root) k)) (up_of all) n m m (parent_same all root 0 all)

-- ---- what lies below has a longer path

abbrev pub GoesOn : List NodePlace → ℕ → ℕ → Type 0
GoesOn all n m = (q : List ℕ) × (path_of all m ≡ path_of all n ++ q)

pub leads_on : (all : List NodePlace) (n steps m : ℕ) → AreOlder all → leads (up_of all) n steps m ≡ true → GoesOn all n m
leads_on all n zero m older h = ([], ap (path_of all) (eqb-true m n h) ∙ sym (append-nil (path_of all n)))
leads_on all n (suc steps) m older h =
    elim (eqb m n) as (λ t. eqb m n ≡ t → (t || from_parent (up_of all m) (leads (up_of all) n steps)) ≡ true → GoesOn all n m) [
      | true ↦ (λ e k. ([], ap (path_of all) (eqb-true m n e) ∙ sym (append-nil (path_of all n))))
      | false ↦ (λ e k. at (λ u l. leads_on all n steps u older l) (slice_get all m) refl k)
    ] refl h
  where
    up : ((u : ℕ) → leads (up_of all) n steps u ≡ true → GoesOn all n u) → (p : NodePlace) → slice_get all m ≡ Some p → (o : Option ℕ) → p.parent ≡ o
        → from_parent o (leads (up_of all) n steps) ≡ true → GoesOn all n m
    up again p is None e k = absurd cc
    up again p is (Some u) e k =
        let on : GoesOn all n u = again u k in
        (on.0 ++ p.group ∷ p.place ∷ [], path_below all m u p older is e ∙ ap (λ x. x ++ p.group ∷ p.place ∷ []) on.1 ∙ append_assoc (path_of all n) on.0 (p.group ∷ p.place ∷ []))

    at : ((u : ℕ) → leads (up_of all) n steps u ≡ true → GoesOn all n u) → (o : Option NodePlace) → slice_get all m ≡ o
        → from_parent (place_parent o) (leads (up_of all) n steps) ≡ true → GoesOn all n m
    at again None is k = absurd cc
    at again (Some p) is k = up again p is p.parent refl k

-- ---- and the other way

abbrev pub IsEven : ℕ → Type 0
IsEven n = (d : ℕ) × (n ≡ 2 * d)

pub even_to : (all : List NodePlace) (steps n : ℕ) → IsEven (length (path_to all steps n))
even_to all zero n = (0, refl)
even_to all (suc steps) n = at (λ m. even_to all steps m) (slice_get all n)
  where
    up : ((m : ℕ) → IsEven (length (path_to all steps m))) → (p : NodePlace) (o : Option ℕ) → IsEven (length (above o (path_to all steps) ++ p.group ∷ p.place ∷ []))
    up again p None = (1, refl)
    up again p (Some m) =
        let rest = again m in
        (suc rest.0, omega (arith, rest.1, length-append (path_to all steps m) (p.group ∷ p.place ∷ [])))

    at : ((m : ℕ) → IsEven (length (path_to all steps m))) → (o : Option NodePlace) → IsEven (length (path_at o (path_to all steps)))
    at again None = (0, refl)
    at again (Some p) = up again p p.parent

pub long : (all : List NodePlace) (n : ℕ) (p : NodePlace) → slice_get all n ≡ Some p → 2 ≤ length (path_of all n)
long all n p is = grind (arith, common_steps)

pub shorter : (a b c d : List ℕ) → a ++ b ≡ c ++ d → length c ≤ length a → (q : List ℕ) × (a ≡ c ++ q)
shorter a b [] d e h = (a, refl)
shorter [] b (x ∷ c) d e h = absurd (omega (arith, h))
shorter (y ∷ a) b (x ∷ c) d e h =
    let head : y ≡ x = cc in
    let tail : a ++ b ≡ c ++ d = cc in
    let rest = shorter a b c d tail (omega (arith, h)) in
    (rest.0, ap (λ z. z ∷ a) head ∙ ap (λ z. x ∷ z) rest.1)

-- the row above one that lies below n, at n or below it
record IsStep (all : List NodePlace) (n m : ℕ) : Type 0 where
  pub up : ℕ
  pub parent : place_parent (slice_get all m) ≡ Some up
  pub older : up < m
  pub on : GoesOn all n up

step_up : (all : List NodePlace) (root : List Entry) (n m : ℕ) (q : List ℕ) → AreOlder all → IsPlaced all root → n < length all → m < length all
    → path_of all m ≡ path_of all n ++ q → (m ≡ n → ⊥) → IsStep all n m
step_up all root n m q older placed ln lm e differ = go (there_at all m lm) (there_at all n ln)
  where
    apart : length q ≡ 0 → ⊥
    apart f = paths_differ all root m n placed lm ln differ (e ∙ ap (λ x. path_of all n ++ x) (nil_from_length q f) ∙ append-nil (path_of all n))

    up : (p r : NodePlace) → slice_get all m ≡ Some p → slice_get all n ≡ Some r → (o : Option ℕ) → p.parent ≡ o → IsStep all n m
    up p r is there None f =
        absurd (apart (omega (arith, long all n r there, ap length e, length-append (path_of all n) q, ap length (path_top all m p is f))))
    up p r is there (Some u) f =
        let below : path_of all m ≡ path_of all u ++ p.group ∷ p.place ∷ [] = path_below all m u p older is f in
        let a = even_to all (suc u) u in
        let b = even_to all (suc n) n in
        let sizes : length (path_of all u) + 2 ≡ length (path_of all n) + length q =
        omega (arith, ap length e, ap length below, length-append (path_of all n) q, length-append (path_of all u) (p.group ∷ p.place ∷ [])) in
        record {
          up = u;
          parent = ap place_parent is ∙ f;
          older = older m p u is f;
          on = shorter (path_of all u) (p.group ∷ p.place ∷ []) (path_of all n) q (sym below ∙ e) (fits (length q) apart a.0 b.0 a.1 b.1 sizes);
        }
      where
        fits : (l : ℕ) → (l ≡ 0 → ⊥) → (x y : ℕ) → length (path_of all u) ≡ 2 * x → length (path_of all n) ≡ 2 * y → length (path_of all u) + 2 ≡ length (path_of all n) + l
            → length (path_of all n) ≤ length (path_of all u)
        fits zero no_more x y f g s = absurd (no_more refl)
        fits (suc l) no_more x y f g s = omega (arith, f, g, s)

    go : (p : NodePlace) × (slice_get all m ≡ Some p) → (r : NodePlace) × (slice_get all n ≡ Some r) → IsStep all n m
    go p r = up p.0 r.0 p.1 r.1 p.0.parent refl

pub unequal : (m n : ℕ) → m ≡ n → eqb m n ≡ false → ⊥
unequal m n e f = let yes : eqb m n ≡ true = eq-eqb m n e in cc

pub on_leads : (all : List NodePlace) (root : List Entry) (n steps m : ℕ) → AreOlder all → IsPlaced all root → n < length all → m < length all → m ≤ steps → GoesOn all n m
    → leads (up_of all) n steps m ≡ true
on_leads all root n zero m older placed ln lm le on =
    elim (eqb m n) as (λ t. eqb m n ≡ t → t ≡ true) [
      | true ↦ (λ e. refl)
      | false ↦ (λ e. (let up = step_up all root n m on.0 older placed ln lm on.1 (λ f. unequal m n f e) in absurd (omega (arith, up.older, le))))
    ] refl
on_leads all root n (suc steps) m older placed ln lm le on =
    elim (eqb m n) as (λ t. eqb m n ≡ t → (t || from_parent (up_of all m) (leads (up_of all) n steps)) ≡ true) [
      | true ↦ (λ e. refl)
      | false ↦ (λ e.
          let up = step_up all root n m on.0 older placed ln lm on.1 (λ f. unequal m n f e) in
          ap (λ o. from_parent o (leads (up_of all) n steps)) up.parent ∙ on_leads all root n steps up.up older placed ln (omega (arith, up.older, lm)) (omega (arith, up.older, le)) up.on)
    ] refl

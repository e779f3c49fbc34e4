-- The branches below a path.
use Rattle.fork_tree.proofs.Common.{◌≡◌, ℕ, zero, suc, ◌+◌, ◌<◌, Bool, true, false, IsTrue, List, [], ◌∷◌, ◌++◌, length, map, Option, Some, None, refl, ap, sym, subst, ◌∙◌, arith, get_or, if◌then◌else◌, eqb, is_some, eq-eqb, eqb-true, Cell, Entry}
use Rattle.fork_tree.proofs.Common.{same, find, pushed, joined, stripped, put_under, under, get_or_default, common_steps}
use Rattle.fork_tree.proofs.BranchChanges.{find_joined}
use Rattle.fork_tree.proofs.Placed.{same_true}
use Rattle.fork_tree.proofs.Ends.{same_led}

pub stripped_here : (p q : List ℕ) → stripped p (p ++ q) ≡ Some q
stripped_here [] q = refl
stripped_here (x ∷ xs) q = rw (eq-eqb x x refl) (stripped_here xs q)

pub stripped_is : (p path q : List ℕ) → stripped p path ≡ Some q → path ≡ p ++ q
stripped_is [] path q h = cc
stripped_is (x ∷ xs) [] q h = absurd cc
stripped_is (x ∷ xs) (y ∷ ys) q h =
    elim (eqb x y) as (λ t. eqb x y ≡ t → (if t then stripped xs ys else None) ≡ Some q → y ∷ ys ≡ x ∷ (xs ++ q))
    [ true ↦ (λ e k. let head : x ≡ y = eqb-true x y e in let tail : ys ≡ xs ++ q = stripped_is xs ys q k in cc) | false ↦ (λ e k. absurd cc) ] refl h

abbrev strip_on : List ℕ → Option (List ℕ) → Option (List ℕ)
strip_on q None = None
strip_on q (Some r) = stripped q r

stripped_more : (p q path : List ℕ) → stripped (p ++ q) path ≡ strip_on q (stripped p path)
stripped_more [] q path = refl
stripped_more (x ∷ xs) q [] = refl
stripped_more (x ∷ xs) q (y ∷ ys) = grind (arith, stripped_more xs q ys)

-- ---- one part among others

under_append : (p : List ℕ) (xs ys : List Entry) → under p (xs ++ ys) ≡ under p xs ++ under p ys
under_append p [] ys = refl
under_append p (x ∷ xs) ys = grind (arith, under_append p xs ys)

under_pushed : (k : ℕ) (p : List ℕ) (rows : List Entry) → under (k ∷ p) (map (pushed k) rows) ≡ under p rows
under_pushed k p [] = refl
under_pushed k p (e ∷ es) = grind (arith, under_pushed k p es)

under_other : (j k : ℕ) (p : List ℕ) (rows : List Entry) → (j ≡ k → ⊥) → under (k ∷ p) (map (pushed j) rows) ≡ []
under_other j k p [] h = refl
under_other j k p (e ∷ es) h = grind (arith, under_other j k p es h)

under_later : (j k : ℕ) (parts : List (List Entry)) (p : List ℕ) → k < j → under (k ∷ p) (joined j parts) ≡ []
under_later j k [] p h = refl
under_later j k (x ∷ xs) p h =
    under_append (k ∷ p) (map (pushed j) x) (joined (suc j) xs)
    ∙ ap (λ r. r ++ under (k ∷ p) (joined (suc j) xs)) (under_other j k p x (λ e. omega (arith, e, h)))
    ∙ under_later (suc j) k xs p (omega (arith, h))

pub under_joined : (j i k : ℕ) (parts : List (List Entry)) (p : List ℕ) → k ≡ j + i → under (k ∷ p) (joined j parts) ≡ under p (get_or parts i [])
under_joined j i k [] p e = refl
under_joined j zero k (x ∷ xs) p e = grind (arith, common_steps, under_append, under_later, under_pushed)
under_joined j (suc i) k (x ∷ xs) p e =
    under_append (k ∷ p) (map (pushed j) x) (joined (suc j) xs)
    ∙ ap (λ r. r ++ under (k ∷ p) (joined (suc j) xs)) (under_other j k p x (λ h. omega (arith, h, e)))
    ∙ under_joined (suc j) i k xs p (omega (arith, e))

pub under_none : (rows : List Entry) → under [] rows ≡ rows
under_none [] = refl
under_none (e ∷ es) = ap (λ r. e ∷ r) (under_none es)

-- ---- a step down

inside : (i : ℕ) (parts : List (List Entry)) (path : List ℕ) → IsTrue (is_some (find (get_or parts i []) path)) → i < length parts
inside i [] path h = absurd cc
inside zero (x ∷ xs) path h = omega arith
inside (suc i) (x ∷ xs) path h = omega (arith, inside i xs path h)

-- the part of this number is there where something stands in it
pub child_in : (rows : List Entry) (parts : List (List Entry)) (i : ℕ) (path : List ℕ) → joined 0 parts ≡ rows → IsTrue (is_some (find rows (i ∷ path))) → i < length parts
child_in rows parts i path v h =
    inside i parts path (subst (λ (x : Option Cell). IsTrue (is_some x)) (sym (ap (λ r. find r (i ∷ path)) v) ∙ find_joined 0 i i parts path (omega arith)) h)

pub child_there : (rows : List Entry) (parts : List (List Entry)) (i : ℕ) (part : List Entry) (path : List ℕ) → joined 0 parts ≡ rows → part ≡ get_or parts i part
    → IsTrue (is_some (find rows (i ∷ path))) → IsTrue (is_some (find part path))
child_there rows parts i part path v is h = grind (arith, common_steps, get_or_default parts i part [] (child_in rows parts i path v h), find_joined, child_in)

pub child_under : (rows : List Entry) (parts : List (List Entry)) (i : ℕ) (part : List Entry) (path : List ℕ) → joined 0 parts ≡ rows → part ≡ get_or parts i part
    → IsTrue (is_some (find rows (i ∷ path))) → under path part ≡ under (i ∷ path) rows
child_under rows parts i part path v is h = grind (arith, common_steps, get_or_default parts i part [] (child_in rows parts i path v h), child_in, under_joined)

pub part_under : (rows : List Entry) (parts : List (List Entry)) (i : ℕ) (part : List Entry) → joined 0 parts ≡ rows → part ≡ get_or parts i part → i < length parts → part ≡ under (i ∷ []) rows
part_under rows parts i part v is lt = grind (arith, common_steps, under_none part, get_or_default parts i part [] lt, under_joined)

-- ---- below what is below

pub find_under : (p : List ℕ) (rows : List Entry) (q : List ℕ) → find (under p rows) q ≡ find rows (p ++ q)
find_under p [] q = refl
find_under p (e ∷ es) q = go (stripped p e.path) refl (find_under p es q)
  where
    differ : stripped p e.path ≡ None → same e.path (p ++ q) ≡ false
    differ h =
        elim (same e.path (p ++ q)) as (λ t. same e.path (p ++ q) ≡ t → t ≡ false)
        [ true ↦ (λ k. (let bad : None ≡ Some q = sym h ∙ ap (stripped p) (same_true e.path (p ++ q) k) ∙ stripped_here p q in absurd cc)) | false ↦ (λ k. refl) ] refl

    go : (o : Option (List ℕ)) → stripped p e.path ≡ o → find (under p es) q ≡ find es (p ++ q)
        → find (put_under o e (under p es)) q ≡ (if same e.path (p ++ q) then Some e.cell else find es (p ++ q))
    go None h rest = rest ∙ sym (ap (λ (t : Bool). if t then Some e.cell else find es (p ++ q)) (differ h))
    go (Some r) h rest =
        ap (λ (t : Bool). if t then Some e.cell else find (under p es) q) (sym (ap (λ x. same x (p ++ q)) (stripped_is p e.path r h) ∙ same_led p r q))
        ∙ ap (λ x. if same e.path (p ++ q) then Some e.cell else x) rest

pub under_twice : (p q : List ℕ) (rows : List Entry) → under q (under p rows) ≡ under (p ++ q) rows
under_twice p q [] = refl
under_twice p q (e ∷ es) = grind (arith, stripped_more, under_twice p q es)

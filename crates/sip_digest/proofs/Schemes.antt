-- The scheme at the front of credentials.
use Rattle.sip_digest.proofs.Common.{◌≡◌, ℕ, Bool, true, false, cond, List, [], ◌∷◌, ◌++◌, Option, Some, None, refl, sym, ap, subst, ◌∙◌, codes, same_Some, cond-true, cond-false, AllByRecursion, bytes_eq, str_to_ascii_lowercase, bytes_eq-Decides, is_space, cut}
use Rattle.sip_digest.proofs.Common.{behind_scheme, scheme_cut}

abbrev Cut : Type 0
Cut = List ℕ × Option (List ℕ)

-- a text is cut at its first space
pub record AtSpace (bs front back : List ℕ) : Type 0 where
  pub space : ℕ
  pub whole : bs ≡ front ++ space ∷ back
  pub no_space : AllByRecursion (λ b. is_space b ≡ false) front
  pub is_space_behind : is_space space ≡ true

pub cut_at_space : (bs : List ℕ) (c : Cut) (back : List ℕ) → cut is_space bs ≡ c → c.1 ≡ Some back → AtSpace bs c.0 back
cut_at_space [] c back e some = let none : None ≡ Some back = ap (λ (x : Cut). x.1) e ∙ some in absurd cc
cut_at_space (b ∷ bs) c back e some = one (is_space b) refl (λ rest. cut_at_space bs (cut is_space bs) back refl rest)
  where
    one : (t : Bool) → is_space b ≡ t → ((cut is_space bs).1 ≡ Some back → AtSpace bs (cut is_space bs).0 back) → AtSpace (b ∷ bs) c.0 back
    one true t again =
        let here : c ≡ ([], Some bs) = sym e ∙ cond-true (is_space b) ([], Some bs) (b ∷ (cut is_space bs).0, (cut is_space bs).1) t in
        let front : c.0 ≡ [] = ap (λ (x : Cut). x.0) here in
        let rest : back ≡ bs = same_Some _ _ (sym some ∙ ap (λ (x : Cut). x.1) here) in
        record {
          space = b;
          whole = ap (λ (x : List ℕ). b ∷ x) (sym rest) ∙ ap (λ (x : List ℕ). x ++ b ∷ back) (sym front);
          no_space = at_front c.0 front;
          is_space_behind = t;
        }
      where
        at_front : (xs : List ℕ) → xs ≡ [] → AllByRecursion (λ b. is_space b ≡ false) xs
        at_front [] h = tt
        at_front (x ∷ xs) h = absurd cc
    one false t again =
        let there : c ≡ (b ∷ (cut is_space bs).0, (cut is_space bs).1) = sym e ∙ cond-false (is_space b) ([], Some bs) (b ∷ (cut is_space bs).0, (cut is_space bs).1) t in
        let front : c.0 ≡ b ∷ (cut is_space bs).0 = ap (λ (x : Cut). x.0) there in
        let rest = again (sym (ap (λ (x : Cut). x.1) there) ∙ some) in
        record {
          space = rest.space;
          whole = ap (λ (x : List ℕ). b ∷ x) rest.whole ∙ ap (λ (x : List ℕ). x ++ rest.space ∷ back) (sym front);
          no_space = at_front c.0 front rest.no_space;
          is_space_behind = rest.is_space_behind;
        }
      where
        at_front : (xs : List ℕ) → xs ≡ b ∷ (cut is_space bs).0 → AllByRecursion (λ b. is_space b ≡ false) (cut is_space bs).0 → AllByRecursion (λ b. is_space b ≡ false) xs
        at_front [] h all = absurd cc
        at_front (x ∷ xs) h all =
            let e : x ≡ b = cc in
            let r : xs ≡ (cut is_space bs).0 = cc in
            (ap is_space e ∙ t, subst (λ (ys : List ℕ). AllByRecursion (λ b. is_space b ≡ false) ys) (sym r) all)

pub cut_again : (front : List ℕ) (space : ℕ) (back : List ℕ) → AllByRecursion (λ b. is_space b ≡ false) front → is_space space ≡ true → cut is_space (front ++ space ∷ back) ≡ (front, Some back)
cut_again [] space back all is = cond-true _ _ _ is
cut_again (b ∷ front) space back all is = cond-false _ _ _ all.0 ∙ ap (λ (c : Cut). (b ∷ c.0, c.1)) (cut_again front space back all.1 is)

-- ---- the scheme Digest

pub record HasScheme (value text : List ℕ) : Type 0 where
  pub scheme : List ℕ
  pub digest : str_to_ascii_lowercase scheme ≡ codes "digest"
  pub at : AtSpace value scheme text

pub scheme_found : (value text : List ℕ) → behind_scheme value ≡ Some text → HasScheme value text
scheme_found value text e = of_cut (cut is_space value) refl e
  where
    with_scheme : (scheme rest : List ℕ) → cut is_space value ≡ (scheme, Some rest) → (b : Bool) → bytes_eq (str_to_ascii_lowercase scheme) (codes "digest") ≡ b
        → cond b (Some rest) None ≡ Some text → HasScheme value text
    with_scheme scheme rest c false t h = absurd cc
    with_scheme scheme rest c true t h = record {
      scheme = scheme;
      digest = (bytes_eq-Decides (str_to_ascii_lowercase scheme) (codes "digest")).0 t;
      at = cut_at_space value (scheme, Some rest) text c h;
    }

    of_cut : (c : Cut) → cut is_space value ≡ c → scheme_cut c ≡ Some text → HasScheme value text
    of_cut (scheme, None) c h = absurd cc
    of_cut (scheme, Some rest) c h = with_scheme scheme rest c (bytes_eq (str_to_ascii_lowercase scheme) (codes "digest")) refl h

pub scheme_again : (scheme : List ℕ) (space : ℕ) (text : List ℕ) → str_to_ascii_lowercase scheme ≡ codes "digest" → AllByRecursion (λ b. is_space b ≡ false) scheme → is_space space ≡ true
    → behind_scheme (scheme ++ space ∷ text) ≡ Some text
scheme_again scheme space text digest all is =
    ap scheme_cut (cut_again scheme space text all is) ∙ cond-true _ _ _ ((bytes_eq-Decides (str_to_ascii_lowercase scheme) (codes "digest")).1 digest)

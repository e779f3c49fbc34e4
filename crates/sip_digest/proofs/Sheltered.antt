-- No comma stands outside the quotes of an element, and its quotes are closed.
use Rattle.sip_digest.proofs.Common.{◌≡◌, ℕ, Bool, true, false, not, eqb, List, [], ◌∷◌, ◌++◌, refl, sym, ap, subst, ◌∙◌, arith, inl, inr, list_all, and_parts, is_space, is_token, trim, trim_start, Quotes, ShelterState, Plain, Quoted, Escaped, LacksOutside, end_place, place_after, IsInside, IsQuoted}
use Rattle.sip_digest.proofs.Common.{AuthParam, IsAuthValue, IsElement, ◌&&◌}
use Rattle.std.proofs.lemmas.Bool.{and_from}
use Rattle.std.proofs.lemmas.List.Sums.{fold-append}
use Rattle.sip_lex.specs.Bytes.{is_token_byte}
use Rattle.sip_lex.proofs.laws.Trims.{token_bytes, trim_end-whole, trim_start-whole}

-- the text behind stands where the text before stood, and no comma is a mark
pub record Stays (bs : List ℕ) : Type 0 where
  pub lacks : LacksOutside Quotes 44 Plain bs
  pub ends : end_place Quotes Plain bs ≡ Plain

-- ---- one text behind the other

lacks_append : (place : ShelterState) (xs ys : List ℕ) → LacksOutside Quotes 44 place xs → LacksOutside Quotes 44 (end_place Quotes place xs) ys → LacksOutside Quotes 44 place (xs ++ ys)
lacks_append place [] ys h k = k
lacks_append place (x ∷ xs) ys h k = (h.0, lacks_append (place_after Quotes place x) xs ys h.1 k)

stays_append : (xs ys : List ℕ) → Stays xs → Stays ys → Stays (xs ++ ys)
stays_append xs ys h k = record {
  lacks = lacks_append Plain xs ys h.lacks (subst (λ (place : ShelterState). LacksOutside Quotes 44 place ys) (sym h.ends) k.lacks);
  ends = fold-append (place_after Quotes) Plain xs ys ∙ ap (λ (place : ShelterState). end_place Quotes place ys) h.ends ∙ k.ends;
}

-- ---- bytes that are neither quote nor comma

abbrev is_bare : ℕ → Bool
is_bare b = not (eqb b 34) && not (eqb b 44)

bare_step : (b : ℕ) → is_bare b ≡ true → (eqb b 44 ≡ false) × (place_after Quotes Plain b ≡ Plain)
bare_step b h = grind arith

bare_stays : (bs : List ℕ) → list_all is_bare bs ≡ true → Stays bs
bare_stays [] h = record { lacks = tt; ends = refl }
bare_stays (b ∷ bs) h =
    let parts = and_parts (is_bare b) (list_all is_bare bs) h in
    let step = bare_step b parts.0 in
    let rest = bare_stays bs parts.1 in
    record {
      lacks = (step.0, subst (λ (place : ShelterState). LacksOutside Quotes 44 place bs) (sym step.1) rest.lacks);
      ends = ap (λ (place : ShelterState). end_place Quotes place bs) step.1 ∙ rest.ends;
    }

all_bare : (p : ℕ → Bool) → ((b : ℕ) → p b ≡ true → is_bare b ≡ true) → (bs : List ℕ) → list_all p bs ≡ true → list_all is_bare bs ≡ true
all_bare p weaker [] h = refl
all_bare p weaker (b ∷ bs) h =
    let parts = and_parts (p b) (list_all p bs) h in
    and_from _ _ (weaker b parts.0) (all_bare p weaker bs parts.1)

space_is_bare : (b : ℕ) → is_space b ≡ true → is_bare b ≡ true
space_is_bare b h = grind arith

token_is_bare : (b : ℕ) → is_token_byte b ≡ true → is_bare b ≡ true
token_is_bare b h = grind arith

spaces_stay : (bs : List ℕ) → list_all is_space bs ≡ true → Stays bs
spaces_stay bs h = bare_stays bs (all_bare is_space space_is_bare bs h)

token_stays : (bs : List ℕ) → is_token bs ≡ true → Stays bs
token_stays bs h = bare_stays bs (all_bare is_token_byte token_is_bare bs (token_bytes bs h))

-- ---- space at the ends

trimmed_stays : (bs : List ℕ) → Stays (trim bs) → Stays bs
trimmed_stays bs h =
    let front = trim_start-whole bs in
    let back = trim_end-whole (trim_start bs) in
    let whole : bs ≡ front.gap ++ (trim bs ++ back.gap) = front.whole ∙ ap (λ (t : List ℕ). front.gap ++ t) back.whole in
    subst Stays (sym whole) (stays_append front.gap (trim bs ++ back.gap) (spaces_stay front.gap front.spaces) (stays_append (trim bs) back.gap h (spaces_stay back.gap back.spaces)))

-- ---- quoted text

abbrev place_in : Bool → ShelterState
place_in true = Escaped
place_in false = Quoted

quoted_step : (b : ℕ) → (eqb b 34 && true) ≡ false → place_after Quotes Quoted b ≡ place_in (eqb b 92)
quoted_step b h = grind arith

true_false : true ≡ false → ⊥
true_false e = absurd cc

record Closes (escaped : Bool) (bs : List ℕ) : Type 0 where
  lacks : LacksOutside Quotes 44 (place_in escaped) bs
  ends : end_place Quotes (place_in escaped) bs ≡ Plain

inside_closes : (escaped : Bool) (inside : List ℕ) → IsInside escaped inside → Closes escaped (inside ++ 34 ∷ [])
inside_closes true [] h = absurd (true_false h)
inside_closes false [] h = record { lacks = (refl, tt); ends = refl }
inside_closes true (b ∷ inside) h =
    let rest = inside_closes false inside h.1 in
    record { lacks = (refl, rest.lacks); ends = rest.ends }
inside_closes false (b ∷ inside) h =
    let step = quoted_step b h.0 in
    let rest = inside_closes (eqb b 92) inside h.1 in
    record {
      lacks = (refl, subst (λ (place : ShelterState). LacksOutside Quotes 44 place (inside ++ 34 ∷ [])) (sym step) rest.lacks);
      ends = ap (λ (place : ShelterState). end_place Quotes place (inside ++ 34 ∷ [])) step ∙ rest.ends;
    }

quoted_stays : (inside : List ℕ) → IsInside false inside → Stays (34 ∷ (inside ++ 34 ∷ []))
quoted_stays inside h =
    let rest = inside_closes false inside h in
    record { lacks = (refl, rest.lacks); ends = rest.ends }

-- ---- elements

quoted_text_stays : (text inside : List ℕ) → IsQuoted text inside [] → Stays text
quoted_text_stays text inside q = subst Stays (sym q.0) (quoted_stays inside q.1)

value_stays : (text value : List ℕ) → IsAuthValue text value → Stays text
value_stays text value h = elim h [ inl t ↦ token_stays text t.0 | inr q ↦ quoted_text_stays text q.0 q.1 ]

pub element_stays : (element : List ℕ) (param : AuthParam) → IsElement element param → Stays element
element_stays element param h =
    let name : Stays (trim h.left) = subst Stays (sym h.named) (token_stays param.name h.token) in
    let equals : Stays (61 ∷ []) = bare_stays (61 ∷ []) refl in
    subst Stays (sym h.spelled)
    (stays_append h.left (61 ∷ h.right) (trimmed_stays h.left name) (stays_append (61 ∷ []) h.right equals (trimmed_stays h.right (value_stays (trim h.right) param.value h.valued))))

-- An element is read exactly where it is one.
use Rattle.sip_digest.proofs.Common.{◌≡◌, ℕ, Bool, true, false, cond, List, [], ◌∷◌, ◌++◌, Option, Some, None, refl, sym, ap, subst, ◌∙◌, arith, inl, inr, same_Some, option_map, is_token, trim, cut, is, behind, Lacks, IsQuoted, quoted_at}
use Rattle.sip_digest.proofs.Common.{AuthParam, IsAuthValue, IsElement, unescaped, element_cut, param_of, read_element, read_value, whole_quoted}
use Rattle.sip_lex.proofs.laws.Cuts.{cut_joins, cut_lacks, cut_again}
use Rattle.sip_lex.proofs.laws.Quotes.{quoted_at-takes, quoted_at-again}

abbrev Cut : Type 0
Cut = List ℕ × Option (List ℕ)

-- ---- values

-- quoted text that is the whole text
pub record IsUnquoted (text value : List ℕ) : Type 0 where
  pub inside : List ℕ
  pub quoted : IsQuoted text inside []
  pub unquoted : value ≡ unescaped false inside

quoted_found : (text : List ℕ) (r : Option (List ℕ × List ℕ)) (value : List ℕ) → quoted_at text ≡ r → whole_quoted r ≡ Some value → IsUnquoted text value
quoted_found text None value at e = absurd cc
quoted_found text (Some (inside, [])) value at e = record { inside = inside; quoted = quoted_at-takes text inside [] at; unquoted = sym (same_Some _ _ e) }
quoted_found text (Some (inside, b ∷ rest)) value at e = absurd cc

pub value_found : (text value : List ℕ) → read_value text ≡ Some value → IsAuthValue text value
value_found text value e = one (is_token text) refl e
  where
    one : (b : Bool) → is_token text ≡ b → cond b (Some text) (whole_quoted (quoted_at text)) ≡ Some value → IsAuthValue text value
    one true t h = inl (t, sym (same_Some _ _ h))
    one false t h = let q = quoted_found text (quoted_at text) value refl h in inr (q.inside, q.quoted, q.unquoted)

not_token : (bs : List ℕ) → is_token (34 ∷ bs) ≡ false
not_token bs = grind arith

token_again : (text value : List ℕ) → is_token text ≡ true → value ≡ text → read_value text ≡ Some value
token_again text value t e = ap (λ b. cond b (Some text) (whole_quoted (quoted_at text))) t ∙ ap Some (sym e)

quoted_again : (text value inside : List ℕ) → IsQuoted text inside [] → value ≡ unescaped false inside → read_value text ≡ Some value
quoted_again text value inside q e =
    ap read_value q.0
    ∙ ap (λ b. cond b (Some (34 ∷ (inside ++ 34 ∷ []))) (whole_quoted (quoted_at (34 ∷ (inside ++ 34 ∷ []))))) (not_token (inside ++ 34 ∷ []))
    ∙ ap whole_quoted (quoted_at-again inside [] q.1)
    ∙ ap Some (sym e)

pub value_again : (text value : List ℕ) → IsAuthValue text value → read_value text ≡ Some value
value_again text value h = elim h [ inl t ↦ token_again text value t.0 t.1 | inr q ↦ quoted_again text value q.0 q.1 q.2 ]

-- ---- elements

pub element_found : (element : List ℕ) (param : AuthParam) → read_element element ≡ Some param → IsElement element param
element_found element param e = of_cut (cut (is 61) element) (cut_joins 61 element) (cut_lacks 61 element) e
  where
    with_value : (left right : List ℕ) → element ≡ left ++ 61 ∷ right → Lacks 61 left → is_token (trim left) ≡ true → (o : Option (List ℕ)) → read_value (trim right) ≡ o
        → option_map (param_of (trim left)) o ≡ Some param → IsElement element param
    with_value left right join lacks t None r h = absurd cc
    with_value left right join lacks t (Some value) r h =
        let same : param_of (trim left) value ≡ param = same_Some _ _ h in
        record {
          left = left;
          right = right;
          spelled = join;
          no_equals = lacks;
          named = ap (λ (p : AuthParam). p.name) same;
          token = subst (λ (p : AuthParam). is_token p.name ≡ true) same t;
          valued = subst (λ (p : AuthParam). IsAuthValue (trim right) p.value) same (value_found (trim right) value r);
        }

    with_name : (left right : List ℕ) → element ≡ left ++ 61 ∷ right → Lacks 61 left → (b : Bool) → is_token (trim left) ≡ b
        → cond b (option_map (param_of (trim left)) (read_value (trim right))) None ≡ Some param → IsElement element param
    with_name left right join lacks true t h = with_value left right join lacks t (read_value (trim right)) refl h
    with_name left right join lacks false t h = absurd cc

    of_cut : (c : Cut) → element ≡ c.0 ++ behind 61 c.1 → Lacks 61 c.0 → element_cut c ≡ Some param → IsElement element param
    of_cut (left, None) join lacks h = absurd cc
    of_cut (left, Some right) join lacks h = with_name left right join lacks (is_token (trim left)) refl h

pub element_again : (element : List ℕ) (param : AuthParam) → IsElement element param → read_element element ≡ Some param
element_again element param h =
    ap (λ (t : List ℕ). element_cut (cut (is 61) t)) h.spelled
    ∙ ap element_cut (cut_again 61 h.left (Some h.right) h.no_equals)
    ∙ ap (λ b. cond b (option_map (param_of (trim h.left)) (read_value (trim h.right))) None) (ap is_token h.named ∙ h.token)
    ∙ ap (λ (o : Option (List ℕ)). option_map (param_of (trim h.left)) o) (value_again (trim h.right) param.value h.valued)
    ∙ ap (λ (name : List ℕ). Some (param_of name param.value)) h.named

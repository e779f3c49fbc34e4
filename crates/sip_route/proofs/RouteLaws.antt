-- What taking the proxy's own Route value away leaves.
use Rattle.sip_route.proofs.Common.{◌≡◌, ℕ, Bool, true, false, cond, List, [], ◌∷◌, ◌++◌, map, Option, Some, None, refl, sym, ap, ◌∙◌, inl, inr, option_map, cases_Bool, cond-true, cond-false, trim, first_of, first_value, same_name, HeaderText, MessageText, Own}
use Rattle.sip_route.proofs.Common.{replaced, hops_name, names_own, route_name, stripped, stripped_at, route_values, values_in, values_behind, common_steps, arith, Plain, QuotesAndAngles, cut_outside}
use Rattle.std.specs.List.{flat_map}
use Rattle.sip_text.specs.Name.{full_name, values_of}
use Rattle.sip_via.specs.Edits.{line_if_any}
use Rattle.sip_via.proofs.laws.Replaced.{values-replaced}
use Rattle.sip_route.specs.RouteValues.{without_own}
use Rattle.sip_route.proofs.RoutePieces.{pieces_from-cut}
use Rattle.sip_route.proofs.TrimmedPieces.{values-trim}

-- ---- the values of other names

others-at : (own : Own) (name : List ℕ) (hs : List HeaderText) (o : Option (List ℕ)) → same_name route_name name ≡ false → values_of name (stripped_at own hs o) ≡ values_of name hs
others-at own name hs o differ = grind (arith, values-replaced)

pub others_stay : (m : MessageText) (own : Own) (name : List ℕ) → same_name route_name name ≡ false → values_of name (stripped m own).headers ≡ values_of name m.headers
others_stay m own name differ = others-at own name m.headers (first_value route_name m.headers) differ

-- the first Max-Forwards line stays
pub hops_stay : (m : MessageText) (own : Own) → first_value hops_name (stripped m own).headers ≡ first_value hops_name m.headers
unfolding full_name
hops_stay m own = ap first_of (others_stay m own hops_name refl)

-- ---- the Route values

abbrev values_if_any : Option (List ℕ) → List (List ℕ)
values_if_any None = []
values_if_any (Some value) = value ∷ []

tail_is : (v w : List ℕ) (vs ws : List (List ℕ)) → v ∷ vs ≡ w ∷ ws → vs ≡ ws
tail_is v w vs ws e = cc

values-line : (name n : List ℕ) (o : Option (List ℕ)) (hs : List HeaderText) → same_name name n ≡ true → values_of name (line_if_any n o ++ hs) ≡ values_if_any o ++ values_of name hs
unfolding values_of
values-line name n o hs same = grind arith

-- the first value is another one, or gone
first-replaced : (name : List ℕ) (o : Option (List ℕ)) (hs : List HeaderText) (v : List ℕ) (vs : List (List ℕ)) → values_of name hs ≡ v ∷ vs → values_of name (replaced name o hs) ≡ values_if_any o ++ vs
unfolding values_of
first-replaced name o [] v vs e = absurd cc
first-replaced name o (h ∷ hs) v vs e =
    elim (cases_Bool (same_name name h.name)) [
      | inl same ↦
          let rest : values_of name hs ≡ vs = tail_is h.value v (values_of name hs) vs (sym (cond-true (same_name name h.name) (h.value ∷ values_of name hs) (values_of name hs) same) ∙ e) in
          ap (values_of name) (cond-true (same_name name h.name) (line_if_any h.name o ++ hs) (h ∷ replaced name o hs) same)
          ∙ values-line name h.name o hs same
          ∙ ap (λ (xs : List (List ℕ)). values_if_any o ++ xs) rest
      | inr other ↦
          ap (values_of name) (cond-false (same_name name h.name) (line_if_any h.name o ++ hs) (h ∷ replaced name o hs) other)
          ∙ cond-false (same_name name h.name) (h.value ∷ values_of name (replaced name o hs)) (values_of name (replaced name o hs)) other
          ∙ first-replaced name o hs v vs (sym (cond-false (same_name name h.name) (h.value ∷ values_of name hs) (values_of name hs) other) ∙ e)
    ]

-- what is left of a line, and the lines behind it
left-values : (o : Option (List ℕ)) (vs : List (List ℕ)) → map trim (flat_map values_in (values_if_any (option_map trim o) ++ vs)) ≡ map trim (values_behind o ++ flat_map values_in vs)
left-values o vs = grind (arith, common_steps, values-trim)

-- whether the first value names the proxy or not
routes-by : (b : Bool) (hs : List HeaderText) (v w : List ℕ) (o : Option (List ℕ)) (vs : List (List ℕ)) → values_of route_name hs ≡ v ∷ vs → values_in v ≡ w ∷ values_behind o
    → map trim (flat_map values_in (values_of route_name (cond b (replaced route_name (option_map trim o) hs) hs)))
    ≡ map trim (cond b (values_behind o ++ flat_map values_in vs) (w ∷ (values_behind o ++ flat_map values_in vs)))
routes-by true hs v w o vs e split =
    ap (λ (xs : List (List ℕ)). map trim (flat_map values_in xs)) (first-replaced route_name (option_map trim o) hs v vs e) ∙ left-values o vs
routes-by false hs v w o vs e split =
    ap (λ (xs : List (List ℕ)). map trim (flat_map values_in xs)) e ∙ ap (λ (ps : List (List ℕ)). map trim (ps ++ flat_map values_in vs)) split

routes-at : (own : Own) (hs : List HeaderText) (vs : List (List ℕ)) → values_of route_name hs ≡ vs → map trim (flat_map values_in (values_of route_name (stripped_at own hs (first_of vs)))) ≡ map trim (without_own own (flat_map values_in vs))
routes-at own hs [] e = ap (λ (vs : List (List ℕ)). map trim (flat_map values_in vs)) e
routes-at own hs (v ∷ vs) e =
    let c = cut_outside QuotesAndAngles 44 Plain v in
    let split : values_in v ≡ c.0 ∷ values_behind c.1 = pieces_from-cut QuotesAndAngles 44 Plain v in
    routes-by (names_own own c.0) hs v c.0 c.1 vs e split
    ∙ sym (ap (λ (ps : List (List ℕ)). map trim (without_own own (ps ++ flat_map values_in vs))) split)

pub routes_left : (m : MessageText) (own : Own) → map trim (route_values (stripped m own)) ≡ map trim (without_own own (route_values m))
routes_left m own = routes-at own m.headers (values_of route_name m.headers) refl

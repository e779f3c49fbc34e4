-- The Route values that lead to the proxy itself, taken away one by one.
use Rattle.proxy_routing.proofs.Common.{◌≡◌, ◌∙◌, Bool, true, false, List, ℕ, zero, suc, Option, Some, refl, sym, arith, ap, MessageText, Own, ◌&&◌}
use Rattle.std.proofs.Common.{None, ◌||◌, ◌+◌, ◌≤◌, [], ◌∷◌, ◌++◌, cond, drop, eqb, length, map, option_map}
use Rattle.std.proofs.lemmas.Bool.{cond-false, cond-true}
use Rattle.std.proofs.lemmas.List.{drop-drop, length-map}
use Rattle.std.specs.List.{flat_map, onto_first}
use Rattle.sip_lex.specs.Bytes.{trim}
use Rattle.sip_lex.specs.declared.sheltered.ShelterState.{ShelterState}
use Rattle.sip_lex.specs.declared.sheltered.ShelterState.TheVariants.{Plain}
use Rattle.sip_lex.specs.declared.sheltered.Shelter.{Shelter}
use Rattle.sip_lex.specs.declared.sheltered.Shelter.TheVariants.{QuotesAndAngles}
use Rattle.sip_lex.specs.Outside.{pieces_from, pieces_outside, pieces_outside_behind}
use Rattle.sip_lex.specs.Sheltered.{cut_outside, is_plain, place_after}
use Rattle.sip_lex.proofs.laws.OutsideSplits.{onto-cut}
use Rattle.sip_text.specs.Name.{first_of, values_of}
use Rattle.sip_text.specs.Text.{HeaderText}
use Rattle.sip_uri.specs.declared.hop.Hop.{Hop}
use Rattle.sip_via.specs.Edits.{replaced, with_headers}
use Rattle.sip_route.specs.RouteValues.{led_to, first_route, route_values, values_in, without_own}
use Rattle.sip_route.specs.RouteValues as routes
use Rattle.sip_route.specs.Routes.{bracketed, hop_at_text, is_own, names_own, route_name, stripped, stripped_at}
use Rattle.proxy_config.specs.Setup.{Setup, route_of}
use Rattle.proxy_routing.specs.OwnRoutes.{leads_home, leads_to, stripped_all, stripped_home, stripped_times, without_own_routes}

-- ---- the first piece of a text between its marks

abbrev Cut : Type 0
Cut = List ℕ × Option (List ℕ)

abbrev of_cut : Shelter → ℕ → Cut → List (List ℕ)
of_cut shelter mark c = c.0 ∷ pieces_outside_behind shelter mark c.1

pieces_from-cut : (shelter : Shelter) (mark : ℕ) (place : ShelterState) (bs : List ℕ) → pieces_from shelter mark place bs ≡ of_cut shelter mark (cut_outside shelter mark place bs)
pieces_from-cut shelter mark place [] = refl
pieces_from-cut shelter mark place (b ∷ bs) =
    let later = place_after shelter place b in
    elim (is_plain place && eqb b mark) as (λ t. cond {A = List (List ℕ)} t ([] ∷ pieces_outside shelter mark bs) (onto_first b (pieces_from shelter mark later bs)) ≡ of_cut shelter mark (cond {A = Cut} t ([], Some bs) (b ∷ (cut_outside shelter mark later bs).0, (cut_outside shelter mark later bs).1))) [
      | true ↦ refl
      | false ↦ ap (onto_first b) (pieces_from-cut shelter mark later bs) ∙ onto-cut shelter mark b (cut_outside shelter mark later bs)
    ]

-- ---- whether the first leads to an address

leads_led : (own : Own) (hop : Option Hop) → leads_to own (led_to hop) ≡ is_own own hop
leads_led own None = refl
leads_led own (Some hop) = refl

stays_at : (own : Own) (hs : List HeaderText) (lines : List (List ℕ)) → leads_to own (routes.first_of (flat_map values_in lines)) ≡ false → stripped_at own hs (first_of lines) ≡ hs
stays_at own hs [] e = refl
stays_at own hs (line ∷ lines) e =
    let c = cut_outside QuotesAndAngles 44 Plain line in
    let first : leads_to own (routes.first_of (values_in line ++ flat_map values_in lines)) ≡ leads_to own (led_to (hop_at_text (bracketed c.0))) =
    ap (λ (ps : List (List ℕ)). leads_to own (routes.first_of (ps ++ flat_map values_in lines))) (pieces_from-cut QuotesAndAngles 44 Plain line) in
    let not_own : names_own own c.0 ≡ false = sym (leads_led own (hop_at_text (bracketed c.0))) ∙ sym first ∙ e in
    cond-false (names_own own c.0) (replaced route_name (option_map trim c.1) hs) hs not_own

-- a request whose first Route value does not stays as it is
stays_so : (m : MessageText) (own : Own) → leads_to own (first_route m) ≡ false → stripped m own ≡ m
stays_so m own e = ap (with_headers m) (stays_at own m.headers (values_of route_name m.headers) e)

-- ---- one value fewer

abbrev pub RoutesLeft : Type 0
RoutesLeft = (m : MessageText) (own : Own) → map trim (route_values (stripped m own)) ≡ map trim (without_own own (route_values m))

without_first : (own : Own) (values : List (List ℕ)) → leads_to own (routes.first_of values) ≡ true
    → (v : List ℕ) × (vs : List (List ℕ)) × (values ≡ v ∷ vs) × (without_own own values ≡ vs)
without_first own [] e = absurd cc
without_first own (v ∷ vs) e = (v, vs, refl, cond-true (names_own own v) vs (v ∷ vs) (sym (leads_led own (hop_at_text (bracketed v))) ∙ e))

one_less_so : RoutesLeft → (m : MessageText) (own : Own) → leads_to own (first_route m) ≡ true → length (route_values m) ≡ suc (length (route_values (stripped m own)))
one_less_so left m own e =
    let w = without_first own (route_values m) e in
    let short : length (route_values (stripped m own)) ≡ length w.1 =
    sym (length-map (route_values (stripped m own)) trim)
    ∙ ap (λ (vs : List (List ℕ)). length vs) (left m own)
    ∙ length-map (without_own own (route_values m)) trim
    ∙ ap (λ (vs : List (List ℕ)). length vs) w.3 in
    ap (λ (vs : List (List ℕ)). length vs) w.2 ∙ ap suc (sym short)

-- ---- whether the first leads to the proxy, by either address

stays : (own route : Own) (m : MessageText) → leads_home own route (first_route m) ≡ false → stripped_home own route m ≡ m
stays own route m e = by (leads_to own (first_route m)) refl
  where
    by : (b : Bool) → leads_to own (first_route m) ≡ b → stripped_home own route m ≡ m
    by true is = absurd cc
    by false is =
        let none : leads_to route (first_route m) ≡ false = cc (e, is) in
        cond-false (leads_to own (first_route m)) (stripped m own) (stripped m route) is ∙ stays_so m route none

pub one_less : RoutesLeft → (own route : Own) (m : MessageText) → leads_home own route (first_route m) ≡ true
    → length (route_values m) ≡ suc (length (route_values (stripped_home own route m)))
one_less left own route m e = by (leads_to own (first_route m)) refl
  where
    by : (b : Bool) → leads_to own (first_route m) ≡ b → length (route_values m) ≡ suc (length (route_values (stripped_home own route m)))
    by true is =
        one_less_so left m own is
        ∙ ap (λ (x : MessageText). suc (length (route_values x))) (sym (cond-true (leads_to own (first_route m)) (stripped m own) (stripped m route) is))
    by false is =
        let there : leads_to route (first_route m) ≡ true = cc (e, is) in
        one_less_so left m route there
        ∙ ap (λ (x : MessageText). suc (length (route_values x))) (sym (cond-false (leads_to own (first_route m)) (stripped m own) (stripped m route) is))

-- ---- again and again

stays_times : (n : ℕ) (own route : Own) (m : MessageText) → leads_home own route (first_route m) ≡ false → stripped_times n own route m ≡ m
stays_times zero own route m e = refl
stays_times (suc n) own route m e = ap (stripped_times n own route) (stays own route m e) ∙ stays_times n own route m e

pub all_again : RoutesLeft → (own route : Own) (m : MessageText) → leads_home own route (first_route m) ≡ true
    → stripped_all own route (stripped_home own route m) ≡ stripped_all own route m
unfolding stripped_all
all_again left own route m e = ap (λ (n : ℕ). stripped_times n own route m) (sym (one_less left own route m e))

pub all_done : (own route : Own) (m : MessageText) → leads_home own route (first_route m) ≡ false → stripped_all own route m ≡ m
unfolding stripped_all
all_done own route m e = stays_times (length (route_values m)) own route m e

-- ---- what stays

kept_home : {X : Type 0} (f : MessageText → X) → ((m : MessageText) (own : Own) → f (stripped m own) ≡ f m) → (own route : Own) (m : MessageText) → f (stripped_home own route m) ≡ f m
kept_home f h own route m =
    elim (leads_to own (first_route m)) as (λ b. f (cond b (stripped m own) (stripped m route)) ≡ f m) [
      | true ↦ h m own
      | false ↦ h m route
    ]

kept_times : {X : Type 0} (f : MessageText → X) → ((m : MessageText) (own : Own) → f (stripped m own) ≡ f m) → (n : ℕ) (own route : Own) (m : MessageText)
    → f (stripped_times n own route m) ≡ f m
kept_times f h zero own route m = refl
kept_times f h (suc n) own route m = kept_times f h n own route (stripped_home own route m) ∙ kept_home f h own route m

kept_all : {X : Type 0} (f : MessageText → X) → ((m : MessageText) (own : Own) → f (stripped m own) ≡ f m) → (own route : Own) (m : MessageText)
    → f (stripped_all own route m) ≡ f m
unfolding stripped_all
kept_all f h own route m = kept_times f h (length (route_values m)) own route m

pub kept : {X : Type 0} (f : MessageText → X) → ((m : MessageText) (own : Own) → f (stripped m own) ≡ f m) → (setup : Setup) (m : MessageText) → f (without_own_routes setup m) ≡ f m
kept f h setup m =
    elim (setup.for_service) as (λ b. f (cond b (stripped_all setup.own (route_of setup) m) (stripped m setup.own)) ≡ f m) [
      | true ↦ kept_all f h setup.own (route_of setup) m
      | false ↦ h m setup.own
    ]

-- ---- the Route values that are left

without_drop : (own : Own) (values : List (List ℕ)) → (n : ℕ) × (map trim (without_own own values) ≡ drop n (map trim values))
without_drop own [] = (0, refl)
without_drop own (v ∷ vs) =
    elim (names_own own v) as (λ b. (n : ℕ) × (map trim (cond b vs (v ∷ vs)) ≡ drop n (map trim (v ∷ vs)))) [
      | true ↦ (1, refl)
      | false ↦ (0, refl)
    ]

routes_once : RoutesLeft → (m : MessageText) (own : Own) → (n : ℕ) × (map trim (route_values (stripped m own)) ≡ drop n (map trim (route_values m)))
routes_once left m own =
    let d = without_drop own (route_values m) in
    (d.0, left m own ∙ d.1)

routes_home : RoutesLeft → (own route : Own) (m : MessageText) → (n : ℕ) × (map trim (route_values (stripped_home own route m)) ≡ drop n (map trim (route_values m)))
routes_home left own route m =
    elim (leads_to own (first_route m)) as (λ b. (n : ℕ) × (map trim (route_values (cond b (stripped m own) (stripped m route))) ≡ drop n (map trim (route_values m)))) [
      | true ↦ routes_once left m own
      | false ↦ routes_once left m route
    ]

routes_times : RoutesLeft → (k : ℕ) (own route : Own) (m : MessageText) → (n : ℕ) × (map trim (route_values (stripped_times k own route m)) ≡ drop n (map trim (route_values m)))
routes_times left zero own route m = (0, refl)
routes_times left (suc k) own route m =
    let once = routes_home left own route m in
    let more = routes_times left k own route (stripped_home own route m) in (
      once.0 + more.0,
      more.1 ∙ ap (λ (vs : List (List ℕ)). drop more.0 vs) once.1 ∙ drop-drop more.0 once.0 (map trim (route_values m)),
    )

routes_all : RoutesLeft → (own route : Own) (m : MessageText) → (n : ℕ) × (map trim (route_values (stripped_all own route m)) ≡ drop n (map trim (route_values m)))
unfolding stripped_all
routes_all left own route m = routes_times left (length (route_values m)) own route m

pub routes_left : RoutesLeft → (setup : Setup) (m : MessageText) → (n : ℕ) × (map trim (route_values (without_own_routes setup m)) ≡ drop n (map trim (route_values m)))
routes_left left setup m =
    elim (setup.for_service) as (λ b. (n : ℕ) × (map trim (route_values (cond b (stripped_all setup.own (route_of setup) m) (stripped m setup.own))) ≡ drop n (map trim (route_values m)))) [
      | true ↦ routes_all left setup.own (route_of setup) m
      | false ↦ routes_once left m setup.own
    ]

-- ---- the first that is left

none_left : (own route : Own) (values : List (List ℕ)) → length values ≤ 0 → leads_home own route (routes.first_of values) ≡ false
none_left own route [] few = refl
none_left own route (v ∷ vs) few = absurd (omega arith)

first_times : RoutesLeft → (n : ℕ) (own route : Own) (m : MessageText) → length (route_values m) ≤ n → leads_home own route (first_route (stripped_times n own route m)) ≡ false
first_times left zero own route m few = none_left own route (route_values m) few
first_times left (suc n) own route m few =
    one (leads_home own route (first_route m)) refl (λ within. first_times left n own route (stripped_home own route m) within)
  where
    one : (b : Bool) → leads_home own route (first_route m) ≡ b
        → (length (route_values (stripped_home own route m)) ≤ n → leads_home own route (first_route (stripped_times n own route (stripped_home own route m))) ≡ false)
        → leads_home own route (first_route (stripped_times n own route (stripped_home own route m))) ≡ false
    one true e again =
        let less : length (route_values m) ≡ suc (length (route_values (stripped_home own route m))) = one_less left own route m e in
        again (omega (arith, less, few))
    one false e again =
        ap (λ (x : MessageText). leads_home own route (first_route x)) (ap (stripped_times n own route) (stays own route m e) ∙ stays_times n own route m e) ∙ e

first_all : RoutesLeft → (own route : Own) (m : MessageText) → leads_home own route (first_route (stripped_all own route m)) ≡ false
unfolding stripped_all
first_all left own route m =
    let within : length (route_values m) ≤ length (route_values m) = omega arith in
    first_times left (length (route_values m)) own route m within

pub first_left : RoutesLeft → (setup : Setup) (m : MessageText) → setup.for_service ≡ true → leads_home setup.own (route_of setup) (first_route (without_own_routes setup m)) ≡ false
first_left left setup m on =
    ap (λ (b : Bool). leads_home setup.own (route_of setup) (first_route (cond b (stripped_all setup.own (route_of setup) m) (stripped m setup.own)))) on
    ∙ first_all left setup.own (route_of setup) m

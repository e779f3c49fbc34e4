-- A request that is well formed can be marked with its source.
use Rattle.proxy_routing.proofs.Common.{◌≡◌, Bool, true, false, List, ℕ, zero, suc, Option, Some, Result, Ok, Err, refl, sym, subst, arith, ap, ◌∙◌, codes, ◌&&◌, list_all, MessageText, top_value, via_of, MaxForwards, MayPass, hops_name}
use Rattle.proxy_routing.proofs.Common.{is_at_its_end, is_spent, is_well_formed, target_uri}
use Rattle.std.specs.Prelude.{IfSome, IsOk, if◌then◌else◌}
use Rattle.std.proofs.lemmas.Bool.{and_parts}
use Rattle.sip_text.specs.Name.{first_of, first_value, full_name, same_name, values_of}
use Rattle.sip_via.specs.declared.own.ViaFault.{ViaFault}
use Rattle.sip_via.specs.declared.own.ViaFault.TheVariants.{BadVia}
use Rattle.sip_uri.specs.declared.fault.UriFault.{UriFault}
use Rattle.sip_uri.specs.declared.fault.UriFault.TheVariants.{NotSip}
use Rattle.sip_uri.specs.declared.hop.Hop.{Hop}
use Rattle.sip_uri.specs.Fault.{fault_if_refused}
use Rattle.sip_uri.specs.Reading.{read_uri}
use Rattle.sip_route.specs.Loop.{request_uri}
use Rattle.sip_via.specs.Received.{marked}
use Rattle.sip_via.specs.ViaFaults.{refusal}
use Rattle.sip_via.specs.ViaParts.{is_via}
use Rattle.sip_route.specs.declared.hops.MaxForwards.TheVariants.{Unsaid, Said, Wrong}
use Rattle.sip_route.specs.Hops.{IsHops, hops_of}
use Rattle.proxy_config.specs.Setup.{Setup}
use Rattle.proxy_routing.specs.OwnCredentials.{IsWithoutOwnCredentials}
use Rattle.proxy_routing.specs.OwnRoutes.{without_own_routes}
use Rattle.sip_route.specs.RouteValues.{is_route, route_values}
use Rattle.proxy_routing.specs.Admission.{IsPrepared, are_hops, has_cookie, has_via, is_uri_or_other}

pub ok_refused : {Y : Type 0} (r : Result Y ViaFault) → IsOk r → refusal r ≡ BadVia → ⊥
ok_refused (Ok y) ok e = absurd cc
ok_refused (Err f) ok e = absurd cc

pub has_hops : (m : MessageText) → is_well_formed m ≡ true → (has_via m && are_hops (hops_of m)) ≡ true
has_hops m e =
    let front : (has_via m && are_hops (hops_of m) && list_all is_route (route_values m)) ≡ true =
    (and_parts (has_via m && are_hops (hops_of m) && list_all is_route (route_values m)) (is_uri_or_other (target_uri m)) e).0 in
    (and_parts (has_via m && are_hops (hops_of m)) (list_all is_route (route_values m)) front).0

unread_at : {Y : Type 0} (b : Bool) (r : Result Y ViaFault) → (b ≡ true → IsOk r) → refusal r ≡ BadVia → b ≡ false
unread_at true r ok e = absurd (ok_refused r (ok refl) e)
unread_at false r ok e = refl

pub unread_if_refused : (m : MessageText) (source : Hop) → (is_via (top_value m) ≡ true → IsOk (marked m source)) → refusal (marked m source) ≡ BadVia → is_via (top_value m) ≡ false
unread_if_refused m source ok e = unread_at (is_via (top_value m)) (marked m source) ok e

-- it is well formed where its top Via value can be read, and not otherwise
abbrev formed_at : MessageText → Bool → Bool
formed_at m b = has_cookie (if b then Ok (via_of (top_value m)) else Err BadVia) && are_hops (hops_of m) && list_all is_route (route_values m) && is_uri_or_other (target_uri m)

pub unread : (m : MessageText) → is_via (top_value m) ≡ false → is_well_formed m ≡ false
unread m none = ap (formed_at m) none

scheme_of : {Y : Type 0} (uri : Result Y UriFault) → fault_if_refused uri ≡ Some NotSip → uri ≡ Err NotSip
scheme_of (Ok y) e = absurd cc
scheme_of (Err f) e = cc

-- what the fault of the Request-URI says
pub other_scheme : (m : MessageText) (text : List ℕ) (fault : Option UriFault) → fault ≡ fault_if_refused (read_uri text) → text ≡ request_uri m.start → fault ≡ Some NotSip → target_uri m ≡ Err NotSip
other_scheme m text fault is named other =
    scheme_of (target_uri m) (ap (λ (t : List ℕ). fault_if_refused (read_uri t)) (sym named) ∙ sym is ∙ other)

pub fault_of_other_scheme : (m : MessageText) (text : List ℕ) (fault : Option UriFault) → fault ≡ fault_if_refused (read_uri text) → text ≡ request_uri m.start → target_uri m ≡ Err NotSip → fault ≡ Some NotSip
fault_of_other_scheme m text fault is named other =
    is ∙ ap (λ (t : List ℕ). fault_if_refused (read_uri t)) named ∙ ap fault_if_refused other

passed : (hops : MaxForwards) → are_hops hops ≡ true → is_spent hops ≡ false → MayPass hops
passed Unsaid e f = tt
passed (Said zero) e f = absurd cc
passed (Said (suc n)) e f = omega arith
passed Wrong e f = absurd cc

-- a request that is well formed and not at its end may be passed on
pub may_pass : (m : MessageText) → is_well_formed m ≡ true → is_at_its_end m ≡ false → MayPass (hops_of m)
may_pass m e f = passed (hops_of m) (and_parts (has_via m) (are_hops (hops_of m)) (has_hops m e)).1 f

-- the request as it is prepared, by its parts
pub prepared_so : (setup : Setup) (m n r last : MessageText) (source : Hop) (realm : Option (List ℕ)) → marked m source ≡ Ok n → r ≡ without_own_routes setup n → realm ≡ setup.realm
    → IsWithoutOwnCredentials realm r last → IsPrepared setup m source last
prepared_so setup m n r last source realm e f g is =
    let P : MessageText → Type 0 = λ x. IsWithoutOwnCredentials realm x last in
    let Q : Option (List ℕ) → Type 0 = λ x. IsWithoutOwnCredentials x (without_own_routes setup n) last in
    (n, e, subst Q g (subst P f is))

-- marking, stripping and taking credentials off leave the start line and the first Max-Forwards value
pub same_start : (m n r last : MessageText) (setup : Setup) → r ≡ without_own_routes setup n → (without_own_routes setup n).start ≡ n.start → n.start ≡ m.start
    → last.start ≡ r.start → last.start ≡ m.start
same_start m n r last setup e s t u = u ∙ ap (λ (x : MessageText). x.start) e ∙ s ∙ t

pub not_via : same_name (codes "via") hops_name ≡ false
unfolding full_name
not_via = refl

pub still_passes : (m n r last : MessageText) (setup : Setup) → IfSome (first_value hops_name m.headers) IsHops
    → values_of hops_name n.headers ≡ values_of hops_name m.headers
    → first_value hops_name (without_own_routes setup n).headers ≡ first_value hops_name n.headers → r ≡ without_own_routes setup n
    → first_value hops_name last.headers ≡ first_value hops_name r.headers → IfSome (first_value hops_name last.headers) IsHops
still_passes m n r last setup h e f g k =
    let P : Option (List ℕ) → Type 0 = λ value. IfSome value IsHops in
    let same : first_value hops_name last.headers ≡ first_value hops_name m.headers =
    k ∙ ap (λ (x : MessageText). first_value hops_name x.headers) g ∙ f ∙ ap first_of e in
    subst P (sym same) h

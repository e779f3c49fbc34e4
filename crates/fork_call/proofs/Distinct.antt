-- The targets of a request are no more than may be tried, and none stands twice: they are the locations of a user, or one alone.
use Rattle.fork_call.proofs.OpeningCommon.{◌≡◌, ◌∙◌, ◌<◌, ℕ, zero, suc, true, false, Bool, List, [], Option, Some, None, map, ap, arith, refl, sym, CandidateTarget, targets_of}
use Rattle.std.specs.Prelude.{◌∷◌, length, slice_get}
use Rattle.fork_context.specs.Refusals.{keys_of_targets}
use Rattle.sip_uri.specs.Uri.{Uri}
use Rattle.sip_route.specs.declared.route_values.FirstRoute.{FirstRoute}
use Rattle.proxy_config.specs.Setup.{KeepsRulesWith, Location, LocationsAreTargets, Setup, location_key, locations_of}
use Rattle.proxy_routing.specs.Targets.{candidate_at, candidates_by, candidates_of}
use Rattle.fork_call.specs.inner.Distinct.{AreDistinct}

keys_same : (streams : Bool) (route : FirstRoute) (ls : List Location) → keys_of_targets (targets_of (map (candidate_at streams route) ls)) ≡ map location_key ls
keys_same streams route [] = refl
keys_same streams route (l ∷ ls) = ap (λ (ks : List (List ℕ)). location_key l ∷ ks) (keys_same streams route ls)

length_same : (streams : Bool) (route : FirstRoute) (ls : List Location) → length (targets_of (map (candidate_at streams route) ls)) ≡ length ls
length_same streams route [] = refl
length_same streams route (l ∷ ls) = ap suc (length_same streams route ls)

none_distinct : AreDistinct []
none_distinct = record { few = omega arith; apart = λ (m, n, key, less, a, b). absurd cc }

one_apart : (candidate : CandidateTarget) (m n : ℕ) (key : List ℕ) → m < n → slice_get (keys_of_targets (targets_of (candidate ∷ []))) n ≡ Some key → ⊥
one_apart candidate m zero key less b = omega (arith, less)
one_apart candidate m (suc n) key less b = absurd cc

one_distinct : (candidate : CandidateTarget) → AreDistinct (candidate ∷ [])
one_distinct candidate = record { few = omega arith; apart = λ (m, n, key, less, a, b). one_apart candidate m n key less b }

pub distinct : LocationsAreTargets → (inside : Bool) (setup : Setup) (route : FirstRoute) (uri : Uri) → KeepsRulesWith setup.streams setup.locations → AreDistinct (candidates_by inside setup route uri)
distinct law false setup route uri keeps = one_distinct _
distinct law true setup route uri keeps = by uri.user
  where
    by : (user : Option (List ℕ)) → AreDistinct (candidates_of setup.streams route setup.locations user)
    by None = none_distinct
    by (Some user) =
        let ls = locations_of user setup.locations in
        let are = law setup.streams user setup.locations keeps in
        let few = are.few in
        let long = length_same setup.streams route ls in
        let key_at : (k : ℕ) (key : List ℕ) → slice_get (keys_of_targets (targets_of (map (candidate_at setup.streams route) ls))) k ≡ Some key → slice_get (map location_key ls) k ≡ Some key =
        λ k key e. ap (λ (ks : List (List ℕ)). slice_get ks k) (sym (keys_same setup.streams route ls)) ∙ e in
        record {
          few = omega (arith, few, long);
          apart = λ (m, n, key, less, a, b). are.apart m n key less (key_at m key a) (key_at n key b);
        }

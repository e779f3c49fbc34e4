-- Why a request opens no call is one fault.
use Rattle.std.specs.Prelude.{◌≢◌}
use Rattle.std.specs.List.{list_all}
use Rattle.std.proofs.Common.{Result, Ok, Err}
use Rattle.fork_call.proofs.Common.{◌≡◌, ◌∙◌, ℕ, Bool, true, false, List, [], ap, refl, sym, subst, MessageText, Hop, Call, Opens}
use Rattle.sip_uri.specs.Uri.{Uri}
use Rattle.sip_route.specs.LoopTest.{IsLoop}
use Rattle.proxy_config.specs.Setup.{Setup}
use Rattle.proxy_routing.specs.declared.fault.RequestRejection.{RequestRejection}
use Rattle.proxy_routing.specs.declared.fault.RequestRejection.TheVariants.{BadRequest, Scheme, Hops, Loop, Extension, NoTarget, NoHop, NoMemory}
use Rattle.proxy_routing.specs.Admission.{IsPrepared, asks_extension, is_at_its_end, is_well_formed, target_uri}
use Rattle.proxy_routing.specs.OwnCredentials.{IsWithoutOwnCredentials}
use Rattle.proxy_routing.specs.OwnRoutes.{without_own_routes}
use Rattle.proxy_routing.proofs.laws.OwnCredentials.{one_left}
use Rattle.proxy_routing.specs.Targets.{CandidateTarget, has_hop}
use Rattle.fork_call.specs.Opening.{Refuses, candidates_for}
use Rattle.fork_call.specs.Refused.{OneFaultHolds}

against : (b : Bool) → b ≡ true → b ≡ false → ⊥
against true is not = absurd cc
against false is not = absurd cc

same_ok : {X E : Type 0} → (r : Result X E) (x y : X) → r ≡ Ok x → r ≡ Ok y → x ≡ y
same_ok r x y a b = let e = sym a ∙ b in cc

-- a request is prepared in one way
same_prepared : (setup : Setup) (m : MessageText) (source : Hop) (a b : MessageText) → IsPrepared setup m source a → IsPrepared setup m source b → a ≡ b
same_prepared setup m source a b (wa, ma, ea) (wb, mb, eb) =
    let P : MessageText → Type 0 = λ x. IsWithoutOwnCredentials setup.realm (without_own_routes setup x) b in
    one_left setup.realm (without_own_routes setup wa) a b ea (subst P (same_ok _ wb wa mb ma) eb)

not_looped : (setup : Setup) (m : MessageText) (source : Hop) (a b : MessageText) → IsPrepared setup m source a → IsPrepared setup m source b
    → IsLoop a setup.own → (IsLoop b setup.own → ⊥) → ⊥
not_looped setup m source a b pa pb loops new_here =
    let L : MessageText → Type 0 = λ x. IsLoop x setup.own in
    new_here (subst L (same_prepared setup m source a b pa pb) loops)

not_asked : (setup : Setup) (m : MessageText) (source : Hop) (a b : MessageText) → IsPrepared setup m source a → IsPrepared setup m source b
    → asks_extension a ≡ true → asks_extension b ≡ false → ⊥
not_asked setup m source a b pa pb asks not =
    against (asks_extension a) asks (ap asks_extension (same_prepared setup m source a b pa pb) ∙ not)

-- it leads to one list of targets
same_targets : (setup : Setup) (m : MessageText) (source : Hop) (a b : MessageText) (ua ub : Uri) → IsPrepared setup m source a → IsPrepared setup m source b
    → target_uri a ≡ Ok ua → target_uri b ≡ Ok ub → candidates_for setup a ua ≡ candidates_for setup b ub
same_targets setup m source a b ua ub pa pb ra rb =
    let e = same_prepared setup m source a b pa pb in
    let u : ua ≡ ub = same_ok (target_uri b) ua ub (sym (ap target_uri e) ∙ ra) rb in
    ap (λ (x : MessageText). candidates_for setup x ua) e ∙ ap (λ (x : Uri). candidates_for setup b x) u

-- some and none
not_some : (a b : List CandidateTarget) → a ≡ b → a ≡ [] → b ≢ [] → ⊥
not_some a b e none some = some (sym e ∙ none)

-- all have a hop, and not all have one
not_hops : (a b : List CandidateTarget) → a ≡ b → list_all has_hop a ≡ false → list_all has_hop b ≡ true → ⊥
not_hops a b e lacks all = against (list_all has_hop b) all (sym (ap (list_all has_hop) e) ∙ lacks)

module _ (setup : Setup) (m : MessageText) (source : Hop) where
  unopened : (fault : RequestRejection) → fault ≢ NoMemory → Refuses setup m source fault → (number : ℕ) (call : Call) → Opens setup number m source call → ⊥
  unopened BadRequest named a number call b = against (is_well_formed m) b.1.routable.formed a
  unopened Scheme named a number call b = b.1.routable.scheme a.1
  unopened Hops named a number call b = against (is_at_its_end m) a.2 b.1.routable.hops
  unopened Loop named a number call b = not_looped setup m source a.1 b.0 a.2 b.1.prepared a.3 b.1.new_here
  unopened Extension named a number call b = not_asked setup m source a.0 b.0 a.1.prepared b.1.prepared a.2 b.2.0
  unopened NoTarget named a number call b = not_some _ _ (same_targets setup m source a.0 b.0 a.2.1 b.2.1 a.1.prepared b.1.prepared a.2.2 b.2.2) a.2.3 b.2.3.some
  unopened NoHop named a number call b = not_hops _ _ (same_targets setup m source a.0 b.0 a.2.1 b.2.1 a.1.prepared b.1.prepared a.2.2 b.2.2) a.2.3.1 b.2.3.hops
  unopened NoMemory named a number call b = named refl

  same : (fault other : RequestRejection) → fault ≢ NoMemory → other ≢ NoMemory → Refuses setup m source fault → Refuses setup m source other → other ≡ fault
  same BadRequest BadRequest named also a b = refl
  same BadRequest Scheme named also a b = absurd (against (is_well_formed m) b.0 a)
  same BadRequest Hops named also a b = absurd (against (is_well_formed m) b.0 a)
  same BadRequest Loop named also a b = absurd (against (is_well_formed m) b.0.formed a)
  same BadRequest Extension named also a b = absurd (against (is_well_formed m) b.1.routable.formed a)
  same BadRequest NoTarget named also a b = absurd (against (is_well_formed m) b.1.routable.formed a)
  same BadRequest NoHop named also a b = absurd (against (is_well_formed m) b.1.routable.formed a)
  same BadRequest NoMemory named also a b = absurd (also refl)
  same Scheme BadRequest named also a b = absurd (against (is_well_formed m) a.0 b)
  same Scheme Scheme named also a b = refl
  same Scheme Hops named also a b = absurd (b.1 a.1)
  same Scheme Loop named also a b = absurd (b.0.scheme a.1)
  same Scheme Extension named also a b = absurd (b.1.routable.scheme a.1)
  same Scheme NoTarget named also a b = absurd (b.1.routable.scheme a.1)
  same Scheme NoHop named also a b = absurd (b.1.routable.scheme a.1)
  same Scheme NoMemory named also a b = absurd (also refl)
  same Hops BadRequest named also a b = absurd (against (is_well_formed m) a.0 b)
  same Hops Scheme named also a b = absurd (a.1 b.1)
  same Hops Hops named also a b = refl
  same Hops Loop named also a b = absurd (against (is_at_its_end m) a.2 b.0.hops)
  same Hops Extension named also a b = absurd (against (is_at_its_end m) a.2 b.1.routable.hops)
  same Hops NoTarget named also a b = absurd (against (is_at_its_end m) a.2 b.1.routable.hops)
  same Hops NoHop named also a b = absurd (against (is_at_its_end m) a.2 b.1.routable.hops)
  same Hops NoMemory named also a b = absurd (also refl)
  same Loop BadRequest named also a b = absurd (against (is_well_formed m) a.0.formed b)
  same Loop Scheme named also a b = absurd (a.0.scheme b.1)
  same Loop Hops named also a b = absurd (against (is_at_its_end m) b.2 a.0.hops)
  same Loop Loop named also a b = refl
  same Loop Extension named also a b = absurd (not_looped setup m source a.1 b.0 a.2 b.1.prepared a.3 b.1.new_here)
  same Loop NoTarget named also a b = absurd (not_looped setup m source a.1 b.0 a.2 b.1.prepared a.3 b.1.new_here)
  same Loop NoHop named also a b = absurd (not_looped setup m source a.1 b.0 a.2 b.1.prepared a.3 b.1.new_here)
  same Loop NoMemory named also a b = absurd (also refl)
  same Extension BadRequest named also a b = absurd (against (is_well_formed m) a.1.routable.formed b)
  same Extension Scheme named also a b = absurd (a.1.routable.scheme b.1)
  same Extension Hops named also a b = absurd (against (is_at_its_end m) b.2 a.1.routable.hops)
  same Extension Loop named also a b = absurd (not_looped setup m source b.1 a.0 b.2 a.1.prepared b.3 a.1.new_here)
  same Extension Extension named also a b = refl
  same Extension NoTarget named also a b = absurd (not_asked setup m source a.0 b.0 a.1.prepared b.1.prepared a.2 b.2.0)
  same Extension NoHop named also a b = absurd (not_asked setup m source a.0 b.0 a.1.prepared b.1.prepared a.2 b.2.0)
  same Extension NoMemory named also a b = absurd (also refl)
  same NoTarget BadRequest named also a b = absurd (against (is_well_formed m) a.1.routable.formed b)
  same NoTarget Scheme named also a b = absurd (a.1.routable.scheme b.1)
  same NoTarget Hops named also a b = absurd (against (is_at_its_end m) b.2 a.1.routable.hops)
  same NoTarget Loop named also a b = absurd (not_looped setup m source b.1 a.0 b.2 a.1.prepared b.3 a.1.new_here)
  same NoTarget Extension named also a b = absurd (not_asked setup m source b.0 a.0 b.1.prepared a.1.prepared b.2 a.2.0)
  same NoTarget NoTarget named also a b = refl
  same NoTarget NoHop named also a b = absurd (not_some _ _ (same_targets setup m source a.0 b.0 a.2.1 b.2.1 a.1.prepared b.1.prepared a.2.2 b.2.2) a.2.3 b.2.3.0)
  same NoTarget NoMemory named also a b = absurd (also refl)
  same NoHop BadRequest named also a b = absurd (against (is_well_formed m) a.1.routable.formed b)
  same NoHop Scheme named also a b = absurd (a.1.routable.scheme b.1)
  same NoHop Hops named also a b = absurd (against (is_at_its_end m) b.2 a.1.routable.hops)
  same NoHop Loop named also a b = absurd (not_looped setup m source b.1 a.0 b.2 a.1.prepared b.3 a.1.new_here)
  same NoHop Extension named also a b = absurd (not_asked setup m source b.0 a.0 b.1.prepared a.1.prepared b.2 a.2.0)
  same NoHop NoTarget named also a b = absurd (not_some _ _ (same_targets setup m source b.0 a.0 b.2.1 a.2.1 b.1.prepared a.1.prepared b.2.2 a.2.2) b.2.3 a.2.3.0)
  same NoHop NoHop named also a b = refl
  same NoHop NoMemory named also a b = absurd (also refl)
  same NoMemory other named also a b = absurd (named refl)

pub one_fault_holds : OneFaultHolds
one_fault_holds setup m source fault named refuses = record {
  unopened = unopened setup m source fault named refuses;
  only = λ other also b. same setup m source fault other named also refuses b;
}

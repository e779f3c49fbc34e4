-- What is known where a request was admitted, and where it was not.
use Rattle.fork_call.proofs.OpeningCommon.{◌≡◌, ◌∙◌, true, false, refl, Bool, ℕ, List, [], Option, Result, Ok, Err, ap, subst, IfOk, list_all, Rules, MessageText, StartText, Own, top_value, via_of, Call, OpenedRequest, IsAdmitted, target_uri, IsTurnedAway}
use Rattle.fork_call.proofs.OpeningCommon.{IsBegun, CandidateTarget, has_hop}
use Rattle.std.specs.Prelude.{IfErr, length, ◌==◌}
use Rattle.std.proofs.Common.{sym}
use Rattle.sip_text.specs.Text as texts
use Rattle.sip_uri.specs.declared.hop.Hop.{Hop}
use Rattle.sip_uri.specs.Uri.{Uri}
use Rattle.sip_via.specs.Received.{reply_of}
use Rattle.sip_route.specs.declared.route_values.FirstRoute.{FirstRoute}
use Rattle.sip_route.specs.RouteValues.{first_route}
use Rattle.sip_build.specs.Forwarding.{is_request}
use Rattle.proxy_config.specs.Setup.{Setup}
use Rattle.proxy_routing.specs.declared.fault.RequestRejection.{RequestRejection}
use Rattle.proxy_routing.specs.declared.fault.RequestRejection.TheVariants.{BadRequest, Scheme, Hops, Loop, Extension, NoTarget, NoHop, NoMemory}
use Rattle.proxy_routing.specs.declared.unrouted.Unrouted.{Unrouted}
use Rattle.proxy_routing.specs.declared.unrouted.Unrouted.TheVariants as unrouted
use Rattle.proxy_routing.specs.Admission.{IsPrepared, asks_extension}
use Rattle.proxy_routing.specs.Unrouted.{IfRejected, IsGivenBack, IsTurnedBack}
use Rattle.fork_call.specs.Opening.{Asks, IsOpenable, IsRefused, IsRefusedFor, IsUnreachable, Opens, Reaches, Refuses, came_by_stream, candidates_for, is_stream, large_of, opened_of, record_route_of, stream_record_route_of, tried_by}
use Rattle.call_model.specs.Call.{numbered}
use Rattle.fork_call.specs.Prepared.{IsPreparedAs, IsStoppedFor, IsUnreachableAs, Prepared, is_found_first}
use Rattle.fork_call.specs.inner.Refused.{AsksAs, HasTarget}
use Rattle.fork_call.proofs.laws.Prepared.{behind, given_back, opens_as_prepared, refused_as_prepared}
use Rattle.call_model.specs.declared.tried_contacts.TriedContacts.{TriedContacts}
use Rattle.proxy_routing.specs.Targets.{candidates, candidates_by, hop_if_any, is_domain}

pub openable : (start other : StartText) → start ≡ other → IsOpenable other → is_request start ≡ true
openable start (texts.Request method uri) e h = ap is_request e
openable start (texts.Response status reason) e h = absurd cc

turned_away : (setup : Setup) (m : MessageText) (source : Hop) (fault : RequestRejection) → IsTurnedAway setup m source fault → Refuses setup m source fault
turned_away setup m source BadRequest h = h
turned_away setup m source Scheme h = h
turned_away setup m source Hops h = h
turned_away setup m source Loop h = h
turned_away setup m source Extension h = absurd h
turned_away setup m source NoTarget h = absurd h
turned_away setup m source NoHop h = absurd h
turned_away setup m source NoMemory h = absurd h

-- by one of the first four steps
turned_first : (setup : Setup) (m : MessageText) (source : Hop) (fault : RequestRejection) → IsTurnedAway setup m source fault → is_found_first fault ≡ true
turned_first setup m source BadRequest h = refl
turned_first setup m source Scheme h = refl
turned_first setup m source Hops h = refl
turned_first setup m source Loop h = refl
turned_first setup m source Extension h = refl
turned_first setup m source NoTarget h = absurd h
turned_first setup m source NoHop h = absurd h
turned_first setup m source NoMemory h = refl

-- by the fifth
asks_for : (setup : Setup) (m : MessageText) (source : Hop) (request back : MessageText) → IsAdmitted setup m source request
    → (fault : RequestRejection) → AsksAs request fault back → IsStoppedFor setup m source fault back
asks_for setup m source request back a BadRequest h = absurd h
asks_for setup m source request back a Scheme h = absurd h
asks_for setup m source request back a Hops h = absurd h
asks_for setup m source request back a Loop h = absurd h
asks_for setup m source request back a Extension h =
    (refl, (behind setup m source request a Extension h.0, given_back setup m source request back a h.1 Extension h.0))
asks_for setup m source request back a NoTarget h = absurd h
asks_for setup m source request back a NoHop h = absurd h
asks_for setup m source request back a NoMemory h = absurd h

module _ {A : Type 0} where
  pub turned_back : (setup : Setup) (m : MessageText) (source : Hop) (why : Unrouted A) → IfRejected (IsTurnedBack setup m source) why → IfRejected (IsStoppedFor setup m source) why
  turned_back setup m source (unrouted.Rejected fault back) h = (turned_first setup m source fault h.0, (turned_away setup m source fault h.0, h.1))
  turned_back setup m source unrouted.NoMemory h = tt

  stopped_if : (setup : Setup) (m : MessageText) (source : Hop) (request : MessageText) → IsAdmitted setup m source request
      → (why : Unrouted A) → IfRejected (AsksAs request) why → IfRejected (IsStoppedFor setup m source) why
  stopped_if setup m source request a (unrouted.Rejected fault back) h = asks_for setup m source request back a fault h
  stopped_if setup m source request a unrouted.NoMemory h = tt

  -- a request that asks for an extension
  pub extension : (request : MessageText) (why : Unrouted A) → asks_extension request ≡ true → why ≡ unrouted.Rejected Extension request → IfRejected (AsksAs request) why
  extension request why asks e =
      let P : Unrouted A → Type 0 = λ w. IfRejected (AsksAs request) w in
      subst P (sym e) (asks, refl)

  -- of a request that was admitted
  pub prepared_if : (setup : Setup) (m : MessageText) (source : Hop) (request : MessageText) → IsAdmitted setup m source request
      → (r : Result Prepared (Unrouted A)) → IfOk r (HasTarget request source) → IfOk r (IsPreparedAs setup m source)
  prepared_if setup m source request a (Ok prepared) h =
      let P : MessageText → Type 0 = λ x. IsAdmitted setup m source x in
      record {
        admitted = subst P (sym h.same) a;
        from = h.from;
        unasked = ap asks_extension h.same ∙ h.unasked;
        names = ap target_uri h.same ∙ h.names;
      }
  prepared_if setup m source request a (Err why) h = tt

  pub refuses_if : (setup : Setup) (m : MessageText) (source : Hop) (request : MessageText) → IsAdmitted setup m source request
      → (r : Result Prepared (Unrouted A)) → IfErr r (IfRejected (AsksAs request)) → IfErr r (IfRejected (IsStoppedFor setup m source))
  refuses_if setup m source request a (Ok prepared) h = tt
  refuses_if setup m source request a (Err why) h = stopped_if setup m source request a why h

  -- what is stopped is refused
  pub stopped_refused : (setup : Setup) (m : MessageText) (source : Hop) (why : Unrouted A) → IfRejected (IsStoppedFor setup m source) why → IfRejected (IsRefusedFor setup m source) why
  stopped_refused setup m source (unrouted.Rejected fault back) h = h.1
  stopped_refused setup m source unrouted.NoMemory h = tt

-- ---- of a request in parts

module _ {A : Type 0} (setup : Setup) (request other : MessageText) (source from : Hop) (uri named : Uri) (r : Result Call (Unrouted A)) where
  pub reaches_same : request ≡ other → source ≡ from → uri ≡ named → IfOk r (Reaches setup 0 request source uri) → IfOk r (Reaches setup 0 other from named)
  reaches_same a b c h =
      let P : MessageText → Type 0 = λ x. IfOk r (Reaches setup 0 x source uri) in
      let Q : Hop → Type 0 = λ x. IfOk r (Reaches setup 0 other x uri) in
      let R : Uri → Type 0 = λ x. IfOk r (Reaches setup 0 other from x) in
      subst R c (subst Q b (subst P a h))

  pub unreached_same : request ≡ other → uri ≡ named → IfErr r (IfRejected (IsUnreachableAs setup request uri)) → IfErr r (IfRejected (IsUnreachableAs setup other named))
  unreached_same a c h =
      let P : MessageText → Type 0 = λ x. IfErr r (IfRejected (IsUnreachableAs setup x uri)) in
      let R : Uri → Type 0 = λ x. IfErr r (IfRejected (IsUnreachableAs setup other x)) in
      subst R c (subst P a h)

-- ---- what is prepared and opened with one setup

module _ {A : Type 0} where
  pub all_open : (setup : Setup) (m : MessageText) (source : Hop) (prepared : Prepared) → IsPreparedAs setup m source prepared → (r : Result Call (Unrouted A))
      → IfOk r (λ call. (number : ℕ) → Reaches setup number prepared.request prepared.source prepared.uri (numbered number call))
      → IfOk r (λ call. (number : ℕ) → Opens setup number m source (numbered number call))
  all_open setup m source prepared is (Ok call) h = λ number. opens_as_prepared setup number m source prepared (numbered number call) is (h number)
  all_open setup m source prepared is (Err why) h = tt

  refused_so : (setup : Setup) (m : MessageText) (source : Hop) (prepared : Prepared) → IsPreparedAs setup m source prepared → (why : Unrouted A)
      → IfRejected (IsUnreachableAs setup prepared.request prepared.uri) why → IfRejected (IsRefusedFor setup m source) why
  refused_so setup m source prepared is (unrouted.Rejected fault back) h = refused_as_prepared setup m source prepared fault back is h
  refused_so setup m source prepared is unrouted.NoMemory h = tt

  pub refuses_so : (setup : Setup) (m : MessageText) (source : Hop) (prepared : Prepared) → IsPreparedAs setup m source prepared → (r : Result Call (Unrouted A))
      → IfErr r (IfRejected (IsUnreachableAs setup prepared.request prepared.uri)) → IfErr r (IfRejected (IsRefusedFor setup m source))
  refuses_so setup m source prepared is (Ok call) h = tt
  refuses_so setup m source prepared is (Err why) h = refused_so setup m source prepared is why h

-- ---- the call that opens for a request to a URI

-- a vector of that length, which is not 0
pub some_if : (cs slice : List CandidateTarget) (len : ℕ) (none : Bool) → none ≡ (len == 0) → none ≡ false → slice ≡ cs → length slice ≡ len → cs ≡ [] → ⊥
some_if cs slice len none test false_is same long e =
    let zero_long : length slice ≡ 0 = ap (λ (xs : List CandidateTarget). length xs) (same ∙ e) in
    let zero_len : len ≡ 0 = sym long ∙ zero_long in
    let is_none : none ≡ true = test ∙ ap (λ (k : ℕ). k == 0) zero_len in
    absurd (let a : true ≡ false = sym is_none ∙ false_is in cc)

pub fixed_so : (setup : Setup) (number : ℕ) (request : MessageText) (source : Hop) (uri : Uri) (own : Own) (instance : ℕ) (caller : Hop) (route : Option Hop) (inside streams : Bool) (recorded streamed : Option (List ℕ)) (from : Bool)
    (tried : TriedContacts) (stamps reasons : Bool) (ring : ℕ) (large : Bool) (first : FirstRoute) (opened : OpenedRequest)
    → opened ≡ record { number = number; own = own; instance = instance; request = request; caller = caller; route = route; tried = tried; record_route = recorded; stream_record_route = streamed; stamps = stamps; reasons = reasons; ring = ring; large = large }
    → own ≡ setup.own → instance ≡ setup.instance → caller ≡ reply_of (via_of (top_value request)) source
    → route ≡ hop_if_any streams first → first ≡ first_route request → inside ≡ is_domain setup uri → tried ≡ tried_by inside streams → streams ≡ setup.streams
    → from ≡ is_stream caller.transport → recorded ≡ record_route_of setup request from false → streamed ≡ stream_record_route_of setup.streams setup request from
    → stamps ≡ setup.stamps → reasons ≡ setup.reasons → ring ≡ setup.ring → large ≡ large_of setup request uri recorded → opened ≡ opened_of setup number request source uri
fixed_so setup number request source uri own instance caller route inside streams recorded streamed from tried stamps reasons ring large first opened e p q r s t u a b f v o w x y z =
    let destination : route ≡ hop_if_any setup.streams (first_route request) =
    s ∙ ap (hop_if_any streams) t ∙ ap (λ (x : Bool). hop_if_any x (first_route request)) b in
    let which : tried ≡ tried_by (is_domain setup uri) setup.streams = a ∙ ap (λ (x : Bool). tried_by x streams) u ∙ ap (tried_by (is_domain setup uri)) b in
    let came : from ≡ came_by_stream request source = f ∙ ap (λ (h : Hop). is_stream h.transport) r in
    let by_datagram : recorded ≡ record_route_of setup request (came_by_stream request source) false = v ∙ ap (λ (x : Bool). record_route_of setup request x false) came in
    let by_stream : streamed ≡ stream_record_route_of setup.streams setup request (came_by_stream request source) =
    o ∙ ap (λ (x : Bool). stream_record_route_of setup.streams setup request x) came in
    let sized : large ≡ large_of setup request uri (record_route_of setup request (came_by_stream request source) false) =
    z ∙ ap (λ (value : Option (List ℕ)). large_of setup request uri value) by_datagram in
    e ∙ (λ k. record {
      number = number;
      own = p k;
      instance = q k;
      request = request;
      caller = r k;
      route = destination k;
      tried = which k;
      record_route = by_datagram k;
      stream_record_route = by_stream k;
      stamps = w k;
      reasons = x k;
      ring = y k;
      large = sized k;
    })

pub reaches : (setup : Setup) (number : ℕ) (request : MessageText) (source : Hop) (uri : Uri) (rules : Rules) (inside : Bool) (route : FirstRoute) (opened : OpenedRequest) (cs : List CandidateTarget) (call : Call)
    → cs ≡ candidates_by inside setup route uri → inside ≡ is_domain setup uri → (cs ≡ [] → ⊥) → list_all has_hop cs ≡ true → rules ≡ setup.rules → route ≡ first_route request
    → opened ≡ opened_of setup number request source uri → IsBegun rules opened cs call → Reaches setup number request source uri call
reaches setup number request source uri rules inside route opened cs call p i n h q r s b =
    let whole : cs ≡ candidates_for setup request uri = p ∙ ap (λ (x : Bool). candidates_by x setup route uri) i ∙ ap (λ (x : FirstRoute). candidates setup x uri) r in
    let H : List CandidateTarget → Type 0 = λ x. list_all has_hop x ≡ true in
    let B : List CandidateTarget → Type 0 = λ x. IsBegun rules opened x call in
    let C : Rules → Type 0 = λ x. IsBegun x opened (candidates_for setup request uri) call in
    let E : OpenedRequest → Type 0 = λ x. IsBegun setup.rules x (candidates_for setup request uri) call in
    record { some = λ e. n (whole ∙ e); hops = subst H whole h; begins = subst E s (subst C q (subst B whole b)) }

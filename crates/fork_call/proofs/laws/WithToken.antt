-- A setup with another token leads where it led, and stops what it stopped: only the Record-Route line is another.
use Rattle.fork_call.proofs.OpeningCommon.{◌≡◌, [], true, false, ℕ, Bool, List, None, Some, Option, Ok, Err, Result, IfOk, list_all, Call, CandidateTarget, IsAdmitted, IsBegun, MessageText, OpenedRequest, Own, Rules, has_hop, top_value, via_of}
use Rattle.std.specs.Prelude.{IfErr}
use Rattle.sip_route.specs.declared.route_values.FirstRoute.{FirstRoute}
use Rattle.sip_route.specs.RouteValues.{first_route}
use Rattle.sip_uri.specs.Uri.{Uri}
use Rattle.sip_uri.specs.declared.hop.Hop.{Hop}
use Rattle.sip_via.specs.Received.{reply_of}
use Rattle.call_model.specs.declared.tried_contacts.TriedContacts.{TriedContacts}
use Rattle.proxy_config.specs.Setup.{Setup}
use Rattle.proxy_config.specs.declared.dialog_token.DialogToken.{DialogToken}
use Rattle.proxy_routing.specs.Targets.{candidates_by, hop_if_any, is_domain}
use Rattle.proxy_routing.specs.Unrouted.{IfRejected}
use Rattle.proxy_routing.specs.declared.fault.RequestRejection.{RequestRejection}
use Rattle.proxy_routing.specs.declared.fault.RequestRejection.TheVariants.{BadRequest, Scheme, Hops, Loop, Extension, NoTarget, NoHop, NoMemory}
use Rattle.proxy_routing.specs.declared.unrouted.Unrouted.{Unrouted}
use Rattle.proxy_routing.specs.declared.unrouted.Unrouted.TheVariants as unrouted
use Rattle.fork_call.specs.Opening.{IsRefusedFor, Reaches, is_stream, large_of, opened_of, record_route_of, stream_record_route_of, tried_by, with_token}
use Rattle.fork_call.specs.Prepared.{IsPreparedAs, Prepared}
use Rattle.fork_call.proofs.OpenedCalls.{fixed_so, reaches}

pub admitted_with : (token : Option DialogToken) (setup : Setup) (m : MessageText) (source : Hop) (request : MessageText)
    → IsAdmitted setup m source request → IsAdmitted (with_token token setup) m source request
admitted_with None setup m source request is = is
admitted_with (Some token) setup m source request is = record { routable = is.routable; prepared = is.prepared; new_here = is.new_here }

pub prepared_with : (token : Option DialogToken) (setup : Setup) (m : MessageText) (source : Hop) (prepared : Prepared)
    → IsPreparedAs setup m source prepared → IsPreparedAs (with_token token setup) m source prepared
prepared_with token setup m source prepared is =
    record { admitted = admitted_with token setup m source prepared.request is.admitted; from = is.from; unasked = is.unasked; names = is.names }

-- ---- what stops a request

refused_for : (token : DialogToken) (setup : Setup) (m : MessageText) (source : Hop) (fault : RequestRejection) (back : MessageText)
    → IsRefusedFor setup m source fault back → IsRefusedFor (with_token (Some token) setup) m source fault back
refused_for token setup m source BadRequest back h = h
refused_for token setup m source Scheme back h = h
refused_for token setup m source Hops back h = h
refused_for token setup m source Loop back h = h
refused_for token setup m source Extension back h = ((h.0.0, admitted_with (Some token) setup m source h.0.0 h.0.1, h.0.2), h.1)
refused_for token setup m source NoTarget back h = ((h.0.0, admitted_with (Some token) setup m source h.0.0 h.0.1, h.0.2), h.1)
refused_for token setup m source NoHop back h = ((h.0.0, admitted_with (Some token) setup m source h.0.0 h.0.1, h.0.2), h.1)
refused_for token setup m source NoMemory back h = absurd h.1

refused_with : (token : Option DialogToken) (setup : Setup) (m : MessageText) (source : Hop) (fault : RequestRejection) (back : MessageText)
    → IsRefusedFor setup m source fault back → IsRefusedFor (with_token token setup) m source fault back
refused_with None setup m source fault back h = h
refused_with (Some token) setup m source fault back h = refused_for token setup m source fault back h

module _ {A : Type 0} where
  pub rejected_with : (token : Option DialogToken) (setup : Setup) (m : MessageText) (source : Hop) (why : Unrouted A)
      → IfRejected (IsRefusedFor setup m source) why → IfRejected (IsRefusedFor (with_token token setup) m source) why
  rejected_with token setup m source (unrouted.Rejected fault back) h = refused_with token setup m source fault back h
  rejected_with token setup m source unrouted.NoMemory h = tt

  pub refuses_with : (token : Option DialogToken) (setup : Setup) (m : MessageText) (source : Hop) (r : Result Call (Unrouted A))
      → IfErr r (IfRejected (IsRefusedFor setup m source)) → IfErr r (IfRejected (IsRefusedFor (with_token token setup) m source))
  refuses_with token setup m source (Ok call) h = tt
  refuses_with token setup m source (Err why) h = rejected_with token setup m source why h

-- ---- the call that opens

pub fixed_with : (token : Option DialogToken) (setup : Setup) (number : ℕ) (request : MessageText) (source : Hop) (uri : Uri) (own : Own) (instance : ℕ) (caller : Hop) (route : Option Hop) (inside streams : Bool) (recorded streamed : Option (List ℕ)) (from : Bool)
    (tried : TriedContacts) (stamps reasons : Bool) (ring : ℕ) (large : Bool) (first : FirstRoute) (opened : OpenedRequest)
    → opened ≡ record { number = number; own = own; instance = instance; request = request; caller = caller; route = route; tried = tried; record_route = recorded; stream_record_route = streamed; stamps = stamps; reasons = reasons; ring = ring; large = large }
    → own ≡ setup.own → instance ≡ setup.instance → caller ≡ reply_of (via_of (top_value request)) source
    → route ≡ hop_if_any streams first → first ≡ first_route request → inside ≡ is_domain setup uri → tried ≡ tried_by inside streams → streams ≡ setup.streams
    → from ≡ is_stream caller.transport → recorded ≡ record_route_of (with_token token setup) request from false → streamed ≡ stream_record_route_of setup.streams (with_token token setup) request from
    → stamps ≡ setup.stamps → reasons ≡ setup.reasons → ring ≡ setup.ring
    → large ≡ large_of setup request uri recorded → opened ≡ opened_of (with_token token setup) number request source uri
fixed_with None setup = fixed_so setup
fixed_with (Some token) setup = fixed_so (with_token (Some token) setup)

pub reaches_with : (token : Option DialogToken) (setup : Setup) (number : ℕ) (request : MessageText) (source : Hop) (uri : Uri) (rules : Rules) (inside : Bool) (route : FirstRoute) (opened : OpenedRequest) (cs : List CandidateTarget) (call : Call)
    → cs ≡ candidates_by inside setup route uri → inside ≡ is_domain setup uri → (cs ≡ [] → ⊥) → list_all has_hop cs ≡ true → rules ≡ setup.rules → route ≡ first_route request
    → opened ≡ opened_of (with_token token setup) number request source uri → IsBegun rules opened cs call → Reaches (with_token token setup) number request source uri call
reaches_with None setup = reaches setup
reaches_with (Some token) setup = reaches (with_token (Some token) setup)

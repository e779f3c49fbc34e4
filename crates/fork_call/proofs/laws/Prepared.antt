-- A request that was prepared and then opened a call, or did not, opens it or is refused as it came.
use Rattle.fork_call.proofs.OpeningCommon.{◌≡◌, false, ℕ, Ok, subst, refl, MessageText, Call, IsAdmitted, target_uri}
use Rattle.std.proofs.Common.{sym}
use Rattle.sip_uri.specs.declared.hop.Hop.{Hop}
use Rattle.sip_uri.specs.Uri.{Uri}
use Rattle.proxy_config.specs.Setup.{Setup}
use Rattle.proxy_routing.specs.declared.fault.RequestRejection.{RequestRejection}
use Rattle.proxy_routing.specs.declared.fault.RequestRejection.TheVariants.{BadRequest, Scheme, Hops, Loop, Extension, NoTarget, NoHop, NoMemory}
use Rattle.proxy_routing.specs.Admission.{IsPrepared, asks_extension}
use Rattle.proxy_routing.specs.Unrouted.{IsGivenBack}
use Rattle.fork_call.specs.Opening.{IsRefused, IsRefusedFor, IsUnreachable, Opens, Reaches, Refuses}
use Rattle.fork_call.specs.Prepared.{IsPreparedAs, IsUnreachableAs, Prepared}

pub behind : (setup : Setup) (m : MessageText) (source : Hop) (request : MessageText) → IsAdmitted setup m source request
    → (fault : RequestRejection) → IsRefused setup request fault → Refuses setup m source fault
behind setup m source request a BadRequest h = absurd h
behind setup m source request a Scheme h = absurd h
behind setup m source request a Hops h = absurd h
behind setup m source request a Loop h = absurd h
behind setup m source request a Extension h = (request, a, h)
behind setup m source request a NoTarget h = (request, a, h)
behind setup m source request a NoHop h = (request, a, h)
behind setup m source request a NoMemory h = absurd h

pub asked : (setup : Setup) (request : MessageText) (uri : Uri) → asks_extension request ≡ false → target_uri request ≡ Ok uri
    → (fault : RequestRejection) → IsUnreachable setup request uri fault → IsRefused setup request fault
asked setup request uri a t BadRequest h = absurd h
asked setup request uri a t Scheme h = absurd h
asked setup request uri a t Hops h = absurd h
asked setup request uri a t Loop h = absurd h
asked setup request uri a t Extension h = absurd h
asked setup request uri a t NoTarget h = (a, uri, t, h)
asked setup request uri a t NoHop h = (a, uri, t, h)
asked setup request uri a t NoMemory h = absurd h

-- what a fault behind the first four steps gives back
pub given_back : (setup : Setup) (m : MessageText) (source : Hop) (request back : MessageText) → IsAdmitted setup m source request → back ≡ request
    → (fault : RequestRejection) → IsRefused setup request fault → IsGivenBack setup m source fault back
given_back setup m source request back a e BadRequest h = absurd h
given_back setup m source request back a e Scheme h = absurd h
given_back setup m source request back a e Hops h = absurd h
given_back setup m source request back a e Loop h = absurd h
given_back setup m source request back a e Extension h = let P : MessageText → Type 0 = λ x. IsPrepared setup m source x in subst P (sym e) a.prepared
given_back setup m source request back a e NoTarget h = let P : MessageText → Type 0 = λ x. IsPrepared setup m source x in subst P (sym e) a.prepared
given_back setup m source request back a e NoHop h = let P : MessageText → Type 0 = λ x. IsPrepared setup m source x in subst P (sym e) a.prepared
given_back setup m source request back a e NoMemory h = absurd h

-- with one setup, or with two that prepare it alike
pub opens_as_prepared : (setup : Setup) (number : ℕ) (m : MessageText) (source : Hop) (prepared : Prepared) (call : Call) → IsPreparedAs setup m source prepared
    → Reaches setup number prepared.request prepared.source prepared.uri call → Opens setup number m source call
opens_as_prepared setup number m source prepared call is reaches =
    let P : Hop → Type 0 = λ s. Reaches setup number prepared.request s prepared.uri call in
    (prepared.request, is.admitted, (is.unasked, prepared.uri, is.names, subst P is.from reaches))

pub refused_as_prepared : (setup : Setup) (m : MessageText) (source : Hop) (prepared : Prepared) (fault : RequestRejection) (back : MessageText) → IsPreparedAs setup m source prepared
    → IsUnreachableAs setup prepared.request prepared.uri fault back → IsRefusedFor setup m source fault back
refused_as_prepared setup m source prepared fault back is h =
    let refused = asked setup prepared.request prepared.uri is.unasked is.names fault h.0 in
    (behind setup m source prepared.request is.admitted fault refused, given_back setup m source prepared.request back is.admitted h.1 fault refused)

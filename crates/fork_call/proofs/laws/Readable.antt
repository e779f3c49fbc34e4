-- The Request-URI of a request that was admitted can be read.
use Rattle.fork_call.proofs.OpeningCommon.{◌≡◌, ◌&&◌, true, Ok, Err, Result, refl, subst, sym, MessageText, StartText, IsAdmitted, target_uri}
use Rattle.std.specs.Prelude.{◌≢◌, IsOk}
use Rattle.std.specs.List.{list_all}
use Rattle.std.proofs.lemmas.Bool.{and_parts}
use Rattle.sip_uri.specs.declared.fault.UriFault.{UriFault}
use Rattle.sip_uri.specs.declared.fault.UriFault.TheVariants as uris
use Rattle.sip_uri.specs.declared.hop.Hop.{Hop}
use Rattle.sip_uri.specs.Reading.{read_uri}
use Rattle.sip_uri.specs.Uri.{Uri}
use Rattle.sip_route.specs.Hops.{hops_of}
use Rattle.sip_route.specs.Loop.{request_uri}
use Rattle.sip_route.specs.RouteValues.{is_route, route_values}
use Rattle.proxy_config.specs.Setup.{Setup}
use Rattle.proxy_routing.specs.Admission.{IsRoutable, are_hops, has_via, is_uri_or_other}

read_ok : (r : Result Uri UriFault) → is_uri_or_other r ≡ true → r ≢ Err uris.NotSip → IsOk r
read_ok (Ok uri) e other = refl
read_ok (Err uris.NotSip) e other = absurd (other refl)
read_ok (Err uris.BadHost) e other = absurd cc
read_ok (Err uris.BadPort) e other = absurd cc
read_ok (Err uris.BadText) e other = absurd cc
read_ok (Err uris.NoMemory) e other = absurd cc

routable_reads : (m : MessageText) → IsRoutable m → IsOk (target_uri m)
routable_reads m is =
    read_ok (target_uri m) (and_parts (has_via m && are_hops (hops_of m) && list_all is_route (route_values m)) (is_uri_or_other (target_uri m)) is.formed).1 is.scheme

pub admitted_reads : (setup : Setup) (m request : MessageText) (source : Hop) → IsAdmitted setup m source request → request.start ≡ m.start → IsOk (target_uri request)
admitted_reads setup m request source is same =
    let P : StartText → Type 0 = λ s. IsOk (read_uri (request_uri s)) in
    subst P (sym same) (routable_reads m is.routable)

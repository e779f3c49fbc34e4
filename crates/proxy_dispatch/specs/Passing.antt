-- Which ACKs are sent on without a call (RFC 3261 sections 16.3, 16.6 and 16.11).
use Rattle.std.specs.Prelude.{◌≡◌, ◌⊎◌, ℕ, true, false, Option, Some, None, Ok}
use Rattle.sip_text.specs.declared.needed.MandatoryHeader.TheVariants.{To}
use Rattle.sip_text.specs.Fields.{value_of}
use Rattle.sip_lex.specs.Tag.{tag_in}
use Rattle.sip_text.specs.Text.{MessageText}
use Rattle.sip_uri.specs.declared.hop.Hop.{Hop}
use Rattle.sip_uri.specs.Uri.{Uri}
use Rattle.sip_route.specs.RouteValues.{first_route}
use Rattle.sip_build.specs.OwnTag.{own_tag}
use Rattle.proxy_config.specs.Setup.{Setup}
use Rattle.call_model.specs.Built.{Datagram}
use Rattle.proxy_routing.specs.declared.fault.RequestRejection.{RequestRejection}
use Rattle.proxy_routing.specs.Admission.{IsAdmitted, target_uri}
use Rattle.proxy_routing.specs.Refusing.{IsTurnedAway, status_of_fault}
use Rattle.proxy_routing.specs.Targets.{hop_to, is_domain}
use Rattle.proxy_dispatch.specs.Sent.{passed_on}

-- its To has the tag of the proxy's own answers (section 8.2.6.2)
abbrev pub HasOwnTag : MessageText → Type 0
HasOwnTag m = tag_in (value_of To m.headers) ≡ Some (own_tag m)

-- what is sent on of a request that was admitted: nothing where it is for the domain, or no hop leads further
abbrev pub GoesOn : Setup → MessageText → Option Datagram → Type 0
GoesOn setup request None =
    (uri : Uri)
    × (target_uri request ≡ Ok uri)
    × ((is_domain setup uri ≡ true) ⊎ (hop_to setup (first_route request) uri ≡ None))
GoesOn setup request (Some datagram) =
    (uri : Uri)
    × (hop : Hop)
    × (target_uri request ≡ Ok uri)
    × (is_domain setup uri ≡ false)
    × (hop_to setup (first_route request) uri ≡ Some hop)
    × (datagram ≡ passed_on setup request uri hop)

-- what is sent on of an ACK: nothing where one of the first four steps of section 16.3 stops it
abbrev pub Passes : Setup → MessageText → Hop → Option Datagram → Type 0
Passes setup m source None =
    ((fault : RequestRejection) × (status : ℕ) × IsTurnedAway setup m source fault × (status_of_fault fault ≡ Some status))
    ⊎ ((request : MessageText) × IsAdmitted setup m source request × GoesOn setup request None)
Passes setup m source (Some datagram) =
    (request : MessageText) × IsAdmitted setup m source request × GoesOn setup request (Some datagram)

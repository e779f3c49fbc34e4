-- Locations of a proxy that gets connections: each may follow those before it, as it did.
use Rattle.proxy_config.proofs.Common.{◌≡◌, Bool, true, false, List, [], ◌∷◌, ◌++◌, Option, Some, None, refl, KeepsFrom, Location, MayFollow, is_reached_by, next_hop}
use Rattle.sip_uri.specs.declared.hop.Hop.{Hop}
use Rattle.sip_uri.specs.declared.hop.Transport.{Transport}
use Rattle.sip_uri.specs.declared.hop.Transport.TheVariants.{Udp, Tcp, Back}
use Rattle.proxy_config.specs.Setup.{is_reached}

transport_still : (streams : Bool) (transport : Transport) → is_reached streams transport ≡ true → is_reached true transport ≡ true
transport_still streams Udp e = refl
transport_still streams Tcp e = refl
transport_still streams (Back port) e = refl

hop_still : (streams : Bool) (hop : Option Hop) → is_reached_by streams hop ≡ true → is_reached_by true hop ≡ true
hop_still streams None e = e
hop_still streams (Some hop) e = transport_still streams hop.transport e

still_follows : (streams : Bool) (earlier : List Location) (location : Location) → MayFollow streams earlier location → MayFollow true earlier location
still_follows streams earlier location h = record { hop = hop_still streams (next_hop location) h.hop; q = h.q; apart = h.apart; few = h.few }

pub keeps_with_streams : (streams : Bool) (earlier locations : List Location) → KeepsFrom streams earlier locations → KeepsFrom true earlier locations
keeps_with_streams streams earlier [] kept = tt
keeps_with_streams streams earlier (location ∷ locations) kept = (
  still_follows streams earlier location kept.0,
  keeps_with_streams streams (earlier ++ location ∷ []) locations kept.1,
)

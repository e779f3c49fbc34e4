-- What a request that is not routed is given back as (RFC 3261 sections 16.3, 16.4 and 18.2.1).
-- Here: what no public contract reaches.
use Rattle.std.specs.Prelude.{◌≡◌, Ok}
use Rattle.sip_text.specs.Text.{MessageText}
use Rattle.sip_uri.specs.declared.hop.Hop.{Hop}
use Rattle.sip_via.specs.Received.{marked}
use Rattle.proxy_routing.specs.declared.fault.RequestRejection.{RequestRejection}
use Rattle.proxy_routing.specs.declared.fault.RequestRejection.TheVariants as fault
use Rattle.proxy_routing.specs.Refusing.{IsUnroutable}

-- by one of the first three steps of section 16.3
abbrev pub IsUnroutableAs : MessageText → Hop → RequestRejection → MessageText → Type 0
IsUnroutableAs m source fault.BadRequest back = IsUnroutable m fault.BadRequest × (back ≡ m)
IsUnroutableAs m source fault.Scheme back = IsUnroutable m fault.Scheme × (marked m source ≡ Ok back)
IsUnroutableAs m source fault.Hops back = IsUnroutable m fault.Hops × (marked m source ≡ Ok back)
IsUnroutableAs m source _ back = ⊥

-- What comes of a request that was admitted (RFC 3261 sections 16.3 step 5 and 16.5).
-- Here: what no public contract reaches.
use Rattle.std.specs.Prelude.{◌≡◌, true, false, Ok}
use Rattle.sip_text.specs.Text.{MessageText}
use Rattle.sip_uri.specs.declared.hop.Hop.{Hop}
use Rattle.proxy_routing.specs.declared.fault.RequestRejection.{RequestRejection}
use Rattle.proxy_routing.specs.declared.fault.RequestRejection.TheVariants.{Extension}
use Rattle.proxy_routing.specs.Admission.{asks_extension, target_uri}
use Rattle.fork_call.specs.Prepared.{Prepared}

-- it asks for no extension, and names the URI
pub record HasTarget (request : MessageText) (source : Hop) (prepared : Prepared) : Type 0 where
  pub same : prepared.request ≡ request
  pub from : prepared.source ≡ source
  pub unasked : asks_extension request ≡ false
  pub names : target_uri request ≡ Ok prepared.uri

-- or it asks for one, and is given back as it is
abbrev pub AsksAs : MessageText → RequestRejection → MessageText → Type 0
AsksAs request Extension back = (asks_extension request ≡ true) × (back ≡ request)
AsksAs request _ back = ⊥

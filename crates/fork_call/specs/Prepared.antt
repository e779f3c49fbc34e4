-- Requests that may open calls, as they were prepared (RFC 3261 sections 16.3, 16.4, 18.2.1 and 22.3).
use Rattle.std.specs.Prelude.{◌≡◌, Bool, true, false, Ok}
use Rattle.sip_text.specs.Text.{MessageText}
use Rattle.sip_uri.specs.declared.hop.Hop.{Hop}
use Rattle.sip_uri.specs.Uri.{Uri}
use Rattle.proxy_config.specs.Setup.{Setup}
use Rattle.proxy_routing.specs.declared.fault.RequestRejection.{RequestRejection}
use Rattle.proxy_routing.specs.declared.fault.RequestRejection.TheVariants.{NoTarget, NoHop}
use Rattle.proxy_routing.specs.Admission.{IsAdmitted, asks_extension, target_uri}
use Rattle.fork_call.specs.Opening.{IsRefusedFor, IsUnreachable}

-- the request as it is prepared, where it came from, and the URI that it names
pub record Prepared : Type 0 where
  pub request : MessageText
  pub source : Hop
  pub uri : Uri

-- what a request is prepared as, of which none of the first five steps of section 16.3 stops it
pub record IsPreparedAs (setup : Setup) (m : MessageText) (source : Hop) (prepared : Prepared) : Type 0 where
  pub admitted : IsAdmitted setup m source prepared.request
  pub from : prepared.source ≡ source
  pub unasked : asks_extension prepared.request ≡ false
  pub names : target_uri prepared.request ≡ Ok prepared.uri

-- whether a fault is found by these steps, before it is seen where the request goes
abbrev pub is_found_first : RequestRejection → Bool
is_found_first NoTarget = false
is_found_first NoHop = false
is_found_first _ = true

-- which of them stops it, and what is given back
abbrev pub IsStoppedFor : Setup → MessageText → Hop → RequestRejection → MessageText → Type 0
IsStoppedFor setup m source fault back = (is_found_first fault ≡ true) × IsRefusedFor setup m source fault back

-- why it is not sent on, and that it is given back as it is (sections 16.5 and 16.6)
abbrev pub IsUnreachableAs : Setup → MessageText → Uri → RequestRejection → MessageText → Type 0
IsUnreachableAs setup request uri fault back = IsUnreachable setup request uri fault × (back ≡ request)

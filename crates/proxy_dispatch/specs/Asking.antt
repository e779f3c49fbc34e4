-- OPTIONS requests to the proxy itself (RFC 3261 sections 11 and 11.2).
use Rattle.std.specs.Prelude.{Bool, true, false, ◌&&◌, Option, Some, Result, Ok, Err, is_none}
use Rattle.sip_text.specs.declared.method.Method.{Method}
use Rattle.sip_text.specs.declared.method.Method.TheVariants as methods
use Rattle.sip_text.specs.declared.needed.MandatoryHeader.TheVariants.{To}
use Rattle.sip_text.specs.Fields.{value_of}
use Rattle.sip_text.specs.Method.{known_method}
use Rattle.sip_lex.specs.Tag.{tag_in}
use Rattle.sip_text.specs.Text.{MessageText}
use Rattle.sip_uri.specs.declared.fault.UriFault.{UriFault}
use Rattle.sip_uri.specs.Uri.{Uri}
use Rattle.proxy_config.specs.Setup.{Setup}
use Rattle.proxy_routing.specs.Admission.{target_uri}
use Rattle.proxy_routing.specs.Targets.{is_domain}

abbrev pub is_options : Option Method → Bool
is_options (Some methods.Options) = true
is_options _ = false

-- a URI of the proxy itself names no user, and the proxy is responsible for it
abbrev pub is_proxy : Setup → Uri → Bool
is_proxy setup uri = is_none uri.user && is_domain setup uri

abbrev pub is_proxy_if_read : Setup → Result Uri UriFault → Bool
is_proxy_if_read setup (Ok uri) = is_proxy setup uri
is_proxy_if_read setup (Err fault) = false

-- an OPTIONS outside of a dialog whose Request-URI is such a URI
abbrev pub asks_proxy : Setup → MessageText → Bool
asks_proxy setup m =
    is_options (known_method m.start) && (is_none (tag_in (value_of To m.headers)) && is_proxy_if_read setup (target_uri m))

-- the proxy of a service answers it, another one treats it as any request
abbrev pub asks_service : Setup → MessageText → Bool
asks_service setup m = setup.for_service && asks_proxy setup m

-- What was read of the top Via value of a request tells whether that value is one with the cookie.
use Rattle.proxy_routing.proofs.Common.{◌≡◌, ◌∙◌, ap, Bool, Err, MessageText, Ok, Option, Some, sym, top_value, via_of}
use Rattle.std.specs.Prelude.{None, if◌then◌else◌}
use Rattle.sip_uri.specs.declared.hop.Hop.{Hop}
use Rattle.sip_via.specs.declared.own.ViaFault.TheVariants.{BadVia}
use Rattle.sip_via.specs.ReadTop.{IsTopOf, ReadTop}
use Rattle.sip_via.specs.ReadTop as read
use Rattle.proxy_routing.specs.Admission.{has_cookie, has_via}

abbrev cookie_at : MessageText → Bool → Bool
cookie_at m b = has_cookie (if b then Ok (via_of (top_value m)) else Err BadVia)

pub told_cookie : (m : MessageText) (source : Hop) (top : Option ReadTop) → IsTopOf m source top → read.has_cookie top ≡ has_via m
told_cookie m source None is = sym (ap (cookie_at m) is)
told_cookie m source (Some top) is = is.cookie ∙ sym (ap (cookie_at m) is.reads)

-- A URI that names a user is none of the proxy's own.
use Rattle.std.proofs.Common.{◌≡◌, ℕ, List, Option, Some, None, Err, Ok, refl, false, true, arith}
use Rattle.std.specs.Prelude.{Result, Bool, drop, is_some, cond, not}
use Rattle.std.specs.List.{list_all}
use Rattle.sip_lex.specs.Cut.{cut, is}
use Rattle.sip_uri.specs.declared.fault.UriFault.{UriFault}
use Rattle.sip_uri.specs.declared.fault.UriFault.TheVariants.{NotSip, BadText}
use Rattle.sip_uri.specs.Grammar.{is_uri_byte}
use Rattle.sip_uri.specs.Reading.{fault_of, is_sip, or_fault, parts_of, read_uri, uri_of, user_of}
use Rattle.sip_uri.specs.Uri.{Uri}
use Rattle.proxy_config.specs.Setup.{Setup}
use Rattle.proxy_dispatch.specs.Asking.{is_proxy, is_proxy_if_read}

cut_user : (c : List ℕ × Option (List ℕ)) → is_some c.1 ≡ true → is_some (user_of c).0 ≡ true
cut_user (front, None) e = absurd cc
cut_user (front, Some rest) e = refl

user_named : (setup : Setup) (uri : Uri) → is_some uri.user ≡ true → is_proxy setup uri ≡ false
user_named setup uri e = grind arith

guarded : (setup : Setup) (b : Bool) (fault : UriFault) (r : Result Uri UriFault)
    → is_proxy_if_read setup r ≡ false → is_proxy_if_read setup (cond b (Err fault) r) ≡ false
guarded setup true fault r e = refl
guarded setup false fault r e = e

faulted : (setup : Setup) (fault : Option UriFault) (uri : Uri) → is_some uri.user ≡ true → is_proxy_if_read setup (or_fault fault uri) ≡ false
faulted setup None uri e = user_named setup uri e
faulted setup (Some fault) uri e = refl

pub with_a_user : (setup : Setup) (text : List ℕ) → is_some (cut (is 64) (drop 4 text)).1 ≡ true → is_proxy_if_read setup (read_uri text) ≡ false
unfolding read_uri parts_of
with_a_user setup text e =
    guarded setup (not (is_sip text)) NotSip _
    (guarded setup (not (list_all is_uri_byte text)) BadText _
    (faulted setup (fault_of (parts_of (drop 4 text))) (uri_of text) (cut_user (cut (is 64) (drop 4 text)) e)))

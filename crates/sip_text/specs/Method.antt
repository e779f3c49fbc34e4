-- The methods that a proxy tells apart (RFC 3261 sections 7.1, 9, 11, 13 and 17.1.1.3).
use Rattle.std.specs.Prelude.{ℕ, Bool, true, false, List, Option, Some, None, codes, if◌then◌else◌}
use Rattle.std.specs.Str.{bytes_eq}
use Rattle.sip_text.specs.declared.method.Method.{Method}
use Rattle.sip_text.specs.declared.method.Method.TheVariants.{Invite, Ack, Cancel, Options, Other}
use Rattle.sip_text.specs.Text.{StartText, Request, Response}

-- names are told apart by case (section 25.1)
unfoldable pub method_named : List ℕ → Method
method_named name =
    if bytes_eq name (codes "INVITE") then Invite
    else (if bytes_eq name (codes "ACK") then Ack
    else (if bytes_eq name (codes "CANCEL") then Cancel
    else (if bytes_eq name (codes "OPTIONS") then Options
    else Other)))

-- that of a request; a response has none
abbrev pub known_method : StartText → Option Method
known_method (Request method uri) = Some (method_named method)
known_method (Response status reason) = None

abbrev pub is_invite : Option Method → Bool
is_invite (Some Invite) = true
is_invite _ = false

-- a request that is for itself; an ACK and a CANCEL belong to another one (sections 9.1 and 17.1.1.3)
abbrev pub stands_alone : Option Method → Bool
stands_alone None = false
stands_alone (Some Ack) = false
stands_alone (Some Cancel) = false
stands_alone (Some _) = true

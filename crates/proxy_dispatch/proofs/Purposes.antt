-- What a message is, by what it is for.
use Rattle.proxy_dispatch.proofs.Common.{◌≡◌, Option, Some, None, refl, RequestKind, Opening}
use Rattle.std.proofs.Common.{false, true}
use Rattle.std.specs.Prelude.{option_map}
use Rattle.sip_text.specs.declared.method.Method.{Method}
use Rattle.sip_text.specs.declared.method.Method.TheVariants as methods
use Rattle.sip_text.specs.Method.{known_method, stands_alone}
use Rattle.sip_text.specs.Text.{StartText, Request, Response}
use Rattle.sip_build.specs.Forwarding.{is_request}
use Rattle.call_state.specs.Kinds.{is_response}
use Rattle.fork_call.specs.Opening.{IsOpenable}
use Rattle.proxy_dispatch.specs.Purpose.{purpose_by, purpose_of}

-- what is neither an ACK nor a CANCEL may open a call
opening_by : (method : Method) → Some (purpose_by method) ≡ Some Opening → stands_alone (Some method) ≡ true
opening_by methods.Invite e = refl
opening_by methods.Ack e = absurd cc
opening_by methods.Cancel e = absurd cc
opening_by methods.Options e = refl
opening_by methods.Other e = refl

opening_if : (known : Option Method) → option_map purpose_by known ≡ Some Opening → stands_alone known ≡ true
opening_if None e = absurd cc
opening_if (Some method) e = opening_by method e

pub opening_opens : (start : StartText) → purpose_of start ≡ Some Opening → IsOpenable start
opening_opens start e = opening_if (known_method start) e

-- what is for nothing is a response, and all else a request
pub no_purpose : (start : StartText) → purpose_of start ≡ None → is_response start ≡ true
no_purpose (Request method uri) e = absurd cc
no_purpose (Response status reason) e = refl

pub a_purpose : (start : StartText) (purpose : RequestKind) → purpose_of start ≡ Some purpose → is_request start ≡ true
a_purpose (Request method uri) purpose e = refl
a_purpose (Response status reason) purpose e = absurd cc

pub a_request : (start : StartText) (purpose : RequestKind) → purpose_of start ≡ Some purpose → is_response start ≡ false
a_request (Request method uri) purpose e = refl
a_request (Response status reason) purpose e = absurd cc

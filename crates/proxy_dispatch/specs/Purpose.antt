-- What a request is for (RFC 3261 sections 9.2, 16.10, 16.11 and 17.2.1).
use Rattle.std.specs.Prelude.{Bool, true, false, Option, Some, None, option_map}
use Rattle.sip_text.specs.declared.method.Method.{Method}
use Rattle.sip_text.specs.declared.method.Method.TheVariants as methods
use Rattle.sip_text.specs.Method.{known_method}
use Rattle.sip_text.specs.Text.{StartText}
use Rattle.sip_text.specs.Reading.{Fault, Short}
use Rattle.proxy_dispatch.specs.declared.purpose.RequestKind.{RequestKind}
use Rattle.proxy_dispatch.specs.declared.purpose.RequestKind.TheVariants.{Ack, Cancel, Opening}

abbrev pub purpose_by : Method → RequestKind
purpose_by methods.Ack = Ack
purpose_by methods.Cancel = Cancel
purpose_by _ = Opening

-- that of a request; a response has none
abbrev pub purpose_of : StartText → Option RequestKind
purpose_of start = option_map purpose_by (known_method start)

-- a response is not answered, and neither is an ACK (section 17.1.1.3)
abbrev pub is_answered : Option RequestKind → Bool
is_answered None = false
is_answered (Some Ack) = false
is_answered (Some Cancel) = true
is_answered (Some Opening) = true

-- of the texts that are no message a request is answered whose body is cut short (section 18.3)
abbrev pub is_fault_answered : Fault → Bool
is_fault_answered (Short head) = is_answered (purpose_of head.start)
is_fault_answered _ = false

-- What a service notes of what it sends.
use Rattle.std.specs.Prelude.{◌≡◌, ℕ, Bool, true, false, ◌||◌, ◌&&◌, Option, Some, None}
use Rattle.call_model.specs.Built.{Datagram}
use Rattle.fork_call.specs.Carry.{Sends}
use Rattle.call_model.specs.declared.cause.Cause.{Cause}
use Rattle.call_model.specs.declared.cause.Cause.TheVariants as cause
use Rattle.sip_text.specs.declared.method.Method.{Method}
use Rattle.sip_text.specs.declared.method.Method.TheVariants as method

-- an answer to the request that opened a call; a 200 to a CANCEL is none
abbrev pub is_answer : Cause → Bool
is_answer cause.Answer = true
is_answer _ = false

-- the target to which it is a CANCEL
abbrev pub cancelled_by : Cause → Option ℕ
cancelled_by (cause.Cancel n) = Some n
cancelled_by _ = None

-- the port behind is handed the datagram; it is noted where an answer went out
abbrev pub SendsNoting : {P : Type 0} → Sends P → P → Bool → Datagram → Bool → P → Bool → Type 0
SendsNoting sends port noted datagram went new new_noted =
    sends port datagram went new × (new_noted ≡ (noted || (went && is_answer datagram.cause)))

-- why a request of this method is sent to a target (RFC 3261 sections 9.1, 16.6 and 17.1.1.3)
abbrev pub sent_as : Method → (target : ℕ) → Cause
sent_as method.Ack target = cause.Ack target
sent_as method.Cancel target = cause.Cancel target
sent_as _ target = cause.Request target

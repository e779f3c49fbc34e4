-- What the proxy sends without a call (RFC 3261 sections 8.2.6, 16.11 and 18.2.2).
use Rattle.std.specs.Prelude.{◌≡◌, ℕ, Bool, List, [], ◌∷◌, Option, Some, None, Result, Ok, Err, codes}
use Rattle.sip_text.specs.Text.{HeaderText, MessageText, spelling}
use Rattle.sip_uri.specs.declared.hop.Hop.{Hop}
use Rattle.sip_uri.specs.Uri.{Uri}
use Rattle.sip_branch.specs.declared.branch.BranchName.{BranchName}
use Rattle.sip_via.specs.declared.own.ViaFault.{ViaFault}
use Rattle.sip_via.specs.Edits.{line}
use Rattle.sip_via.specs.OwnVia.{over}
use Rattle.sip_via.specs.Received.{marked, reply_of}
use Rattle.sip_via.specs.TopVia.{top_value}
use Rattle.sip_via.specs.ViaParts.{via_of}
use Rattle.sip_route.specs.Loop.{loop_key}
use Rattle.sip_build.specs.declared.responses.OwnStatus.{OwnStatus}
use Rattle.sip_build.specs.declared.responses.OwnStatus.TheVariants as own
use Rattle.sip_build.specs.Forwarding.{forwarded}
use Rattle.sip_build.specs.Generated.{generated_of}
use Rattle.proxy_config.specs.Setup.{Setup}
use Rattle.call_model.specs.Built.{Datagram}
use Rattle.call_model.specs.declared.cause.Cause.TheVariants as cause
use Rattle.fork_call.specs.Carry.{Sends}

-- ---- an answer of the proxy's own

abbrev pub answer_to : MessageText → OwnStatus → List HeaderText → Hop → Datagram
answer_to m status further to = record { to = to; bytes = spelling (generated_of m status further); cause = cause.Answer }

-- it is made of the request with its source, and goes where its top Via value says; where that cannot be read it is made of the
-- request as it came, and goes back to where that came from
abbrev pub answer_made : Hop → OwnStatus → List HeaderText → MessageText → Result MessageText ViaFault → Datagram
answer_made source status further m (Ok with_source) = answer_to with_source status further (reply_of (via_of (top_value with_source)) source)
answer_made source status further m (Err fault) = answer_to m status further source

abbrev pub answer_of : MessageText → Hop → OwnStatus → (further : List HeaderText) → Datagram
answer_of m source status further = answer_made source status further m (marked m source)

-- the methods that the proxy takes, and the bodies that it passes on (sections 11.2, 20.1 and 20.5)
abbrev pub capability_lines : List HeaderText
capability_lines = line (codes "Allow") (codes "INVITE, ACK, CANCEL, OPTIONS, BYE") ∷ line (codes "Accept") (codes "application/sdp") ∷ []

-- the 200 to an OPTIONS request to the proxy itself
abbrev pub capabilities_to : MessageText → Hop → Datagram
capabilities_to m source = answer_of m source own.Okay capability_lines

-- after how many seconds a request may come again that was turned away (section 20.33)
abbrev pub retry_lines : List HeaderText
retry_lines = line (codes "Retry-After") (codes "10") ∷ []

-- the 503 to a request that was turned away (section 21.5.4)
abbrev pub unavailable_to : MessageText → Hop → Datagram
unavailable_to m source = answer_of m source own.ServiceUnavailable retry_lines

-- ---- an ACK that is sent on

-- its branch is of no call: no row of a call has this number
abbrev pub passing_branch : Setup → MessageText → BranchName
passing_branch setup request =
    record { key = loop_key request; instance = setup.instance; context = 0; target = 65535 }

abbrev pub passed_text : Setup → MessageText → Uri → Hop → List ℕ
passed_text setup request uri hop = spelling (forwarded request uri (over setup.own hop.transport) (passing_branch setup request) None)

abbrev pub passed_on : Setup → MessageText → Uri → Hop → Datagram
passed_on setup request uri hop =
    record { to = hop; bytes = passed_text setup request uri hop; cause = cause.Request 65535 }

-- ---- by a port

-- the port is handed what there is to send by one send, and nothing else is done with it
abbrev pub IsHanded : {P : Type 0} → Sends P → P → Option Datagram → P → Type 0
IsHanded sends port None new = new ≡ port
IsHanded sends port (Some datagram) new = (went : Bool) × sends port datagram went new

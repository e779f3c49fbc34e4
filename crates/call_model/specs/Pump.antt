-- One thing that a call has to do is done (RFC 3261 sections 9.1, 16.6 to 16.8 and 17).
use Rattle.std.specs.Prelude.{◌≡◌, ℕ, Bool, true, false, List, [], ◌∷◌, Option, Some, None, slice_get, if◌then◌else◌}
use Rattle.fork_model.specs.Table.{is_trying}
use Rattle.fork_model.specs.Event as fork
use Rattle.fork_model.specs.Reply.{Reply}
use Rattle.sip_text.specs.Text.{HeaderText, MessageText, spelling}
use Rattle.sip_build.specs.declared.responses.OwnStatus.TheVariants.{Okay}
use Rattle.sip_build.specs.Generated.{generated_of}
use Rattle.sip_txn.specs.declared.event.TxEvent.TheVariants as event
use Rattle.sip_txn.specs.declared.event.TxSend.{TxSend}
use Rattle.sip_txn.specs.declared.event.TxSend.TheVariants as send
use Rattle.sip_txn.specs.declared.event.TxPass.{TxPass}
use Rattle.sip_txn.specs.declared.event.TxPass.TheVariants as pass
use Rattle.sip_txn.specs.Machine.{machine_after, out_of}
use Rattle.sip_txn.specs.OtherClient.{other_client}
use Rattle.call_model.specs.declared.cause.Cause.TheVariants as cause
use Rattle.call_model.specs.OpenedRequest.{Destination, kind_of}
use Rattle.call_model.specs.Client.{client_after, client_out}
use Rattle.call_model.specs.Reliability.{reliability_of}
use Rattle.call_model.specs.Branch.{Branch, CancelTransaction, branch_start, cancel_start}
use Rattle.call_model.specs.Server.{Owed, Again, CancelOk, served_after, served_out, answer_event}
use Rattle.call_model.specs.Call.{Call, nth_branch, set_branch, row_passes}
use Rattle.call_model.specs.Built.{Datagram, request_to, cancel_to, answer_of, status_of}
use Rattle.call_model.specs.Closing.{reasons_if}
use Rattle.call_model.specs.Due.{Action, SendRequest, SendCancel, SendAck, SendAnswer, TickServer, TickClient, TickCancel, FireTimerC, GiveUp, is_due_at, timer_c_at, IsIdle}
use Rattle.call_model.specs.Take.{is_response}
use Rattle.call_model.specs.Posting.{Posts}

-- what comes of a pump: a datagram, or an action without one, or nothing was to be done
pub data Pumped : Type 0 where
  Send : Datagram → Pumped
  Did : Pumped
  Idle : Pumped

-- ---- to a branch

-- the request goes out, and its client transaction and timer C start
abbrev pub request_bytes : Call → ℕ → Destination → List ℕ
request_bytes call n destination = spelling (request_to call.opened destination n)

abbrev pub SendsRequest : Call → ℕ → ℕ → Destination → Pumped → Call → Type 0
SendsRequest call now n destination pumped new =
    (pumped ≡ Send (record { to = destination.hop; bytes = request_bytes call n destination; cause = cause.Request n }))
    × (new ≡ set_branch call n (branch_start (kind_of call.opened) now destination (request_bytes call n destination)))

-- the Reason lines of its CANCEL, if the call gives reasons: what closed the table says why it is sent; where timer C has fired
-- for the branch, nothing does (RFC 3326)
abbrev pub reasons_of : Call → ℕ → List HeaderText
reasons_of call n = if call.opened.reasons then reasons_if (timer_c_at (nth_branch call n)) call.closing else []

-- its CANCEL goes out, with a client transaction of its own
abbrev pub cancel_bytes : Call → ℕ → Destination → List ℕ
cancel_bytes call n destination = spelling (cancel_to call.opened destination n (reasons_of call n))

abbrev pub cancel_started : Call → ℕ → ℕ → Destination → CancelTransaction
cancel_started call now n destination = cancel_start now (cancel_bytes call n destination) (reliability_of destination.hop.transport)

abbrev pub SendsCancel : Call → ℕ → ℕ → Destination → Branch → Pumped → Call → Type 0
SendsCancel call now n destination branch pumped new =
    (pumped ≡ Send (record { to = destination.hop; bytes = cancel_bytes call n destination; cause = cause.Cancel n }))
    × (new ≡ set_branch call n (record branch { cancelling = Some (cancel_started call now n destination) }))

abbrev pub SendsAck : Call → ℕ → Destination → Branch → Pumped → Call → Type 0
SendsAck call n destination branch pumped new =
    (ack : List ℕ)
    × (branch.ack ≡ Some ack)
    × (pumped ≡ Send (record { to = destination.hop; bytes = ack; cause = cause.Ack n }))
    × (new ≡ set_branch call n (record branch { ack = None }))

-- ---- to the caller

-- the server transaction takes the answer, and sends it or drops it
abbrev pub AnswersBy : Call → ℕ → List Owed → MessageText → Bool → Pumped → Call → Type 0
AnswersBy call now rest answer true pumped new =
    (pumped ≡ Send (record { to = call.opened.caller; bytes = spelling answer; cause = cause.Answer }))
    × (new
    ≡ record call {
      server = record {
        machine = served_after (answer_event (status_of answer)) now call.server.machine;
        owed = rest;
        last = spelling answer;
      };
    })
AnswersBy call now rest answer false pumped new =
    (pumped ≡ Did)
    × (new
    ≡ record call {
      server = record call.server {
        machine = served_after (answer_event (status_of answer)) now call.server.machine;
        owed = rest;
      };
    })

abbrev pub AnswersWith : Call → ℕ → List Owed → Option MessageText → Pumped → Call → Type 0
AnswersWith call now rest None pumped new = ⊥
AnswersWith call now rest (Some answer) pumped new =
    AnswersBy call now rest answer (is_response (served_out (answer_event (status_of answer)) now call.server.machine).send) pumped new

abbrev pub SendsAnswer : Call → ℕ → List Owed → Pumped → Call → Type 0
SendsAnswer call now [] pumped new = ⊥
-- a retransmission, and the 200 to a CANCEL, are fed to no transaction
SendsAnswer call now (Again ∷ rest) pumped new =
    (pumped ≡ Send (record { to = call.opened.caller; bytes = call.server.last; cause = cause.Answer }))
    × (new ≡ record call { server = record call.server { owed = rest } })
SendsAnswer call now (CancelOk cancel to ∷ rest) pumped new =
    (pumped ≡ Send (record { to = to; bytes = spelling (generated_of cancel Okay []); cause = cause.CancelOk }))
    × (new ≡ record call { server = record call.server { owed = rest } })
SendsAnswer call now (owed ∷ rest) pumped new = AnswersWith call now rest (answer_of call owed) pumped new

-- ---- ticks

-- timer G sends the last answer again; what the server transaction passes is not posted
abbrev pub sent_if : Bool → Datagram → Pumped
sent_if true d = Send d
sent_if false d = Did

abbrev pub TicksServer : Call → ℕ → Pumped → Call → Type 0
TicksServer call now pumped new =
    (pumped
    ≡ sent_if (is_response (served_out event.Tick now call.server.machine).send) (record {
      to = call.opened.caller;
      bytes = call.server.last;
      cause = cause.Answer;
    }))
    × (new ≡ record call { server = record call.server { machine = served_after event.Tick now call.server.machine } })

abbrev pub is_request : TxSend → Bool
is_request send.Request = true
is_request _ = false

abbrev pub ticked : Branch → ℕ → Branch
ticked branch now = record branch { client = client_after event.Tick now branch.client }

abbrev pub is_timeout : TxPass → Bool
is_timeout pass.Timeout = true
is_timeout _ = false

-- timers B and F end the branch, timers A and E send its request again, the others end its transaction
abbrev pub TicksClientBy : Call → ℕ → ℕ → Destination → Branch → (timeout : Bool) → Pumped → Call → Type 0
TicksClientBy call now n destination branch true pumped new =
    (pumped ≡ Did) × (reply : Reply) × Posts (set_branch call n (ticked branch now)) (fork.Timeout n) [] None reply new
TicksClientBy call now n destination branch false pumped new =
    (pumped
    ≡ sent_if (is_request (client_out event.Tick now branch.client).send) (record { to = destination.hop; bytes = branch.sent; cause = cause.Request n }))
    × (new ≡ set_branch call n (ticked branch now))

abbrev pub TicksClient : Call → ℕ → ℕ → Destination → Branch → Pumped → Call → Type 0
TicksClient call now n destination branch pumped new =
    TicksClientBy call now n destination branch (is_timeout (client_out event.Tick now branch.client).pass) pumped new

-- what the transaction of a CANCEL passes is not posted
abbrev pub TicksCancel : Call → ℕ → ℕ → Destination → Branch → Pumped → Call → Type 0
TicksCancel call now n destination branch pumped new =
    (cancelling : CancelTransaction)
    × (branch.cancelling ≡ Some cancelling)
    × (pumped
    ≡ sent_if (is_request (out_of other_client event.Tick now cancelling.client).send) (record {
      to = destination.hop;
      bytes = cancelling.sent;
      cause = cause.Cancel n;
    }))
    × (new
    ≡ set_branch call n (record branch {
      cancelling = Some (record cancelling { client = machine_after other_client event.Tick now cancelling.client });
    }))

-- ---- the ends of waiting

abbrev pub stopped : Branch → ℕ → Branch
stopped branch now = record branch { client = client_after event.Stop now branch.client }

-- it fired
abbrev pub without_timer_c : Branch → Branch
without_timer_c branch = record branch { timer_c_at = None }

-- timer C ends a branch that has not rung, and stops its transaction; one that has rung is cancelled (section 16.8)
abbrev pub FiresTimerC : Call → ℕ → ℕ → Branch → Bool → Pumped → Call → Type 0
FiresTimerC call now n branch true pumped new =
    (pumped ≡ Did) × (reply : Reply) × Posts (set_branch call n (stopped branch now)) (fork.TimerC n) [] None reply new
FiresTimerC call now n branch false pumped new =
    (pumped ≡ Did) × (reply : Reply) × Posts (set_branch call n (without_timer_c branch)) (fork.TimerC n) [] None reply new

-- a cancelled branch is given up, and its transaction stopped (section 9.1)
abbrev pub GivesUp : Call → ℕ → ℕ → Branch → Pumped → Call → Type 0
GivesUp call now n branch pumped new =
    (pumped ≡ Did) × (reply : Reply) × Posts (set_branch call n (stopped branch now)) (fork.GiveUp n) [] None reply new

-- ---- by action

-- branch n, with its part
abbrev pub OnPart : Call → ℕ → (Branch → Type 0) → Type 0
OnPart call n P = (branch : Branch) × (nth_branch call n ≡ Some branch) × P branch

-- branch n, with its destination and its part
abbrev pub OnBranch : Call → ℕ → (Destination → Branch → Type 0) → Type 0
OnBranch call n P = (destination : Destination) × (branch : Branch) × (slice_get call.destinations n ≡ Some destination) × (nth_branch call n ≡ Some branch) × P destination branch

abbrev pub Does : Call → ℕ → Action → Pumped → Call → Type 0
Does call now (SendRequest n) pumped new = (destination : Destination) × (slice_get call.destinations n ≡ Some destination) × SendsRequest call now n destination pumped new
Does call now (SendCancel n) pumped new = OnBranch call n (λ destination branch. SendsCancel call now n destination branch pumped new)
Does call now (SendAck n) pumped new = OnBranch call n (λ destination branch. SendsAck call n destination branch pumped new)
Does call now SendAnswer pumped new = SendsAnswer call now call.server.owed pumped new
Does call now TickServer pumped new = TicksServer call now pumped new
Does call now (TickClient n) pumped new = OnBranch call n (λ destination branch. TicksClient call now n destination branch pumped new)
Does call now (TickCancel n) pumped new = OnBranch call n (λ destination branch. TicksCancel call now n destination branch pumped new)
Does call now (FireTimerC n) pumped new = OnPart call n (λ branch. FiresTimerC call now n branch (row_passes is_trying call n) pumped new)
Does call now (GiveUp n) pumped new = OnPart call n (λ branch. GivesUp call now n branch pumped new)

-- one thing that is due is done, whichever; where nothing is, nothing changes
abbrev pub Pumps : Call → ℕ → Pumped → Call → Type 0
Pumps call now Idle new = IsIdle call now × (new ≡ call)
Pumps call now pumped new = (action : Action) × (is_due_at call now action ≡ true) × Does call now action pumped new

-- A message that comes to a transaction of a call (RFC 3261 sections 9.2, 16.7, 17.1 and 17.2).
use Rattle.std.specs.Prelude.{◌≡◌, ◌↔◌, ℕ, ◌&&◌, not, nat_lt, IsTrue, Bool, true, false, List, [], ◌∷◌, Option, Some, None, Ok, slice_get, if◌then◌else◌}
use Rattle.fork_model.specs.Event.{Cancel}
use Rattle.fork_model.specs.Core.{is_full}
use Rattle.fork_model.specs.Reply.{Reply}
use Rattle.fork_model.specs.Chosen.{HasFirst}
use Rattle.fork_model.specs.Log.{core_of, table_of}
use Rattle.sip_build.specs.Requests.{reason_lines}
use Rattle.sip_text.specs.Text.{MessageText, spelling}
use Rattle.sip_uri.specs.declared.hop.Hop.{Hop}
use Rattle.sip_via.specs.Received.{marked, reply_of}
use Rattle.sip_via.specs.TopVia.{top_value}
use Rattle.sip_via.specs.ViaParts.{via_of}
use Rattle.sip_txn.specs.declared.event.TxEvent.{TxEvent}
use Rattle.sip_txn.specs.declared.event.TxEvent.TheVariants as event
use Rattle.sip_txn.specs.declared.event.TxSend.{TxSend}
use Rattle.sip_txn.specs.declared.event.TxSend.TheVariants as send
use Rattle.sip_txn.specs.declared.event.TxPass.{TxPass}
use Rattle.sip_txn.specs.declared.event.TxPass.TheVariants as pass
use Rattle.sip_txn.specs.Timers.{later}
use Rattle.sip_txn.specs.Machine.{machine_after}
use Rattle.sip_txn.specs.OtherClient.{other_client}
use Rattle.call_model.specs.OpenedRequest.{Destination, is_invite}
use Rattle.call_model.specs.Client.{client_after, client_out}
use Rattle.call_model.specs.Branch.{Branch, CancelTransaction, timer_c}
use Rattle.call_model.specs.Closing.{ByCancel, closing_after}
use Rattle.call_model.specs.Server as server
use Rattle.call_model.specs.Server.{served_after, served_out}
use Rattle.call_model.specs.Call.{Call, closed_by, nth_branch, set_branch}
use Rattle.call_model.specs.Built.{ack_to, status_of}
use Rattle.call_model.specs.Response.{contacts_for, event_by}
use Rattle.call_model.specs.Posting.{Posts, owes}

-- the transactions of a call that messages come to
pub data MatchedTransaction : Type 0 where
  -- the caller's request again, its ACK, its CANCEL
  Server : MatchedTransaction
  ServerAck : MatchedTransaction
  ServerCancel : MatchedTransaction
  -- the client transaction of branch n, and that of its CANCEL
  Client : (n : ℕ) → MatchedTransaction
  CancelClient : (n : ℕ) → MatchedTransaction

-- what comes of a message: a transaction absorbs it, or it is posted as the event at this position, or the book takes
-- no more events that change nothing
pub data Taken : Type 0 where
  Absorbed : Taken
  Posted : (at : ℕ) → Taken
  Full : Taken

-- ---- from the caller

abbrev pub is_response : TxSend → Bool
is_response send.Response = true
is_response _ = false

-- the request again: the last answer is owed again where the transaction sends it
abbrev pub again_if : Bool → List server.Owed
again_if true = server.Again ∷ []
again_if false = []

abbrev pub served_on : Call → TxEvent → ℕ → Call
served_on call ev now = record call { server = record call.server { machine = served_after ev now call.server.machine } }

abbrev pub requested_again : Call → ℕ → Call
requested_again call now =
    owes (served_on call event.Request now) (again_if (is_response (served_out event.Request now call.server.machine).send))

-- a CANCEL is posted where the call is an INVITE whose table is not closed (section 16.10)
abbrev pub cancels : Call → Bool
cancels call = is_invite call.opened && not (table_of call.log).closed

-- a 200 to it is owed, which goes to this hop
abbrev pub owes_cancel_ok : Call → MessageText → Hop → Call
owes_cancel_ok call cancel to = owes call (server.CancelOk cancel to ∷ [])

-- what comes of a CANCEL as it was marked; one that is posted closes the table
abbrev pub CancelledBy : Call → MessageText → Hop → Taken → Call → Type 0
CancelledBy call cancel to Absorbed new = (cancels call ≡ false) × (new ≡ owes_cancel_ok call cancel to)
CancelledBy call cancel to (Posted at) new =
    (cancels call ≡ true)
    × (reply : Reply)
    × (reply.at ≡ at)
    × Posts (closed_by (ByCancel (reason_lines cancel)) (owes_cancel_ok call cancel to)) Cancel [] None reply new
CancelledBy call cancel to Full new = ⊥

-- it is answered 200, as it was marked with its source (sections 9.2 and 18.2.1)
abbrev pub TakesCancel : Call → MessageText → Hop → Taken → Call → Type 0
TakesCancel call m source taken new =
    (cancel : MessageText) × (marked m source ≡ Ok cancel) × CancelledBy call cancel (reply_of (via_of (top_value cancel)) source) taken new

-- ---- from a branch

-- the class of a response
abbrev pub response_event : (status : ℕ) → TxEvent
response_event status =
    if nat_lt status 200 then event.Provisional
    else (if nat_lt status 300 then event.Success
    else event.Failure)

abbrev pub is_passed : TxPass → Bool
is_passed pass.Response = true
is_passed _ = false

-- a failure is acknowledged where the transaction says so (section 17.1.1.3)
abbrev pub ack_by : TxSend → List ℕ → Option (List ℕ) → Option (List ℕ)
ack_by send.Ack ack owed = Some ack
ack_by _ ack owed = owed

abbrev pub client_on : Branch → ℕ → ℕ → List ℕ → Branch
client_on branch now status ack = record branch {
  client = client_after (response_event status) now branch.client;
  ack = ack_by (client_out (response_event status) now branch.client).send ack branch.ack;
}

-- a provisional response sets timer C again, but for a 100 (section 16.7 step 2); none does where the branch is waited for less
-- long than timer C is to be
abbrev pub timer_c_again : ℕ → ℕ → (longest : ℕ) → Option ℕ → Option ℕ
timer_c_again now status longest None = None
timer_c_again now status longest (Some at) =
    if nat_lt longest timer_c then Some at
    else (if nat_lt 100 status && nat_lt status 200 then Some (later now timer_c)
    else Some at)

-- a failure is kept where it is the first of all that is stored, for it may go up later; one that another ranks before
-- never does. Any other response goes up at once, or never
abbrev pub answer_kept : (first : Bool) → ℕ → MessageText → Option MessageText → Option MessageText
answer_kept first status m kept = if nat_lt status 300 then kept else (if first then Some m else kept)

abbrev pub going_up : ℕ → MessageText → Option MessageText
going_up status m = if nat_lt status 300 then Some m else None

-- what a response that was posted leaves in the branch's part
abbrev pub branch_posted : (first : Bool) → (longest : ℕ) → Branch → ℕ → ℕ → MessageText → Branch
branch_posted first longest branch now status m = record branch {
  timer_c_at = timer_c_again now status longest branch.timer_c_at;
  answer = answer_kept first status m branch.answer;
}

-- the response as the client transaction of branch n takes it, with its part and its destination
abbrev pub branch_after : Call → ℕ → Branch → Destination → ℕ → MessageText → Branch
branch_after call n branch destination now m = client_on branch now (status_of m) (spelling (ack_to call.opened destination n m))

abbrev pub Responds : Call → ℕ → Branch → Destination → ℕ → MessageText → Taken → Call → Type 0
-- the transaction keeps it to itself
Responds call n branch destination now m Absorbed new =
    (is_passed (client_out (response_event (status_of m)) now branch.client).pass ≡ false)
    × (new ≡ set_branch call n (branch_after call n branch destination now m))
-- it hands it up, and it is posted; it may close the table, and the branch may then be the first of those with a stored answer
-- (section 16.7 steps 5 and 6)
Responds call n branch destination now m (Posted at) new =
    (is_passed (client_out (response_event (status_of m)) now branch.client).pass ≡ true)
    × (reply : Reply)
    × (reply.at ≡ at)
    × (first : Bool)
    × (IsTrue first ↔ HasFirst (table_of new.log) n)
    × Posts
    (closed_by
    (closing_after (table_of new.log).closed (status_of m) call.closing)
    (set_branch call n (branch_posted first destination.longest (branch_after call n branch destination now m) now (status_of m) m)))
    (event_by call.opened.tried n (status_of m) m)
    (contacts_for call.opened.tried (status_of m) m)
    (going_up (status_of m) m)
    reply
    new
-- it would hand it up, and the book does not take it
Responds call n branch destination now m Full new =
    (is_passed (client_out (response_event (status_of m)) now branch.client).pass ≡ true)
    × (is_full (core_of call.log) (event_by call.opened.tried n (status_of m) m) ≡ true)
    × (new ≡ call)

-- the response comes to branch n, whose part and destination there are
abbrev pub RespondsOn : Call → ℕ → ℕ → MessageText → Taken → Call → Type 0
RespondsOn call n now m taken new =
    (branch : Branch) × (destination : Destination) × (nth_branch call n ≡ Some branch) × (slice_get call.destinations n ≡ Some destination) × Responds call n branch destination now m taken new

-- ---- by recipient

abbrev pub TakesAs : Call → ℕ → MessageText → Hop → MatchedTransaction → Taken → Call → Type 0
TakesAs call now m source Server Absorbed new = new ≡ requested_again call now
TakesAs call now m source ServerAck Absorbed new = new ≡ served_on call event.Ack now
TakesAs call now m source ServerCancel taken new = TakesCancel call m source taken new
TakesAs call now m source (Client n) taken new = RespondsOn call n now m taken new
-- what the transaction of a CANCEL passes is not posted
TakesAs call now m source (CancelClient n) Absorbed new =
    (branch : Branch)
    × (cancelling : CancelTransaction)
    × (nth_branch call n ≡ Some branch)
    × (branch.cancelling ≡ Some cancelling)
    × (new
    ≡ set_branch call n (record branch {
      cancelling = Some (record cancelling { client = machine_after other_client (response_event (status_of m)) now cancelling.client });
    }))
TakesAs call now m source _ _ new = ⊥

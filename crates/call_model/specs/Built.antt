-- What a call sends: each datagram, and the message that it spells (RFC 3261 sections 8.2.6, 9.1, 16.6, 16.7 and
-- 17.1.1.3).
use Rattle.std.specs.Prelude.{ℕ, nat_lt, Bool, false, List, [], Option, Some, None, map, slice_get, if◌then◌else◌}
use Rattle.fork_model.specs.Table.{Offer, StoredAnswer}
use Rattle.fork_model.specs.Choice.{Choice, Best, Only503, NoAnswer408, stored_at}
use Rattle.fork_model.specs.Challenges.{challenge_list}
use Rattle.sip_text.specs.Text.{HeaderText, MessageText, StartText, Request, Response}
use Rattle.sip_uri.specs.declared.hop.Hop.{Hop}
use Rattle.sip_build.specs.declared.responses.OwnStatus.{OwnStatus}
use Rattle.sip_build.specs.declared.responses.OwnStatus.TheVariants as own
use Rattle.sip_build.specs.Forwarding.{forwarded}
use Rattle.sip_build.specs.Generated.{generated_of, timestamp_lines}
use Rattle.sip_build.specs.Requests.{ack_of, cancel_of}
use Rattle.sip_build.specs.Upward.{upward_of}
use Rattle.sip_via.specs.OwnVia.{over}
use Rattle.call_model.specs.declared.cause.Cause.{Cause}
use Rattle.call_model.specs.OpenedRequest.{OpenedRequest, Destination, branch_at, recorded_to}
use Rattle.call_model.specs.Branch.{Branch}
use Rattle.call_model.specs.Server.{Owed, Trying, Passed, Final, Again, CancelOk}
use Rattle.call_model.specs.Call.{Call, rows_of, nth_branch}

pub record Datagram : Type 0 where
  pub to : Hop
  pub bytes : List ℕ
  pub cause : Cause

-- ---- to a branch

-- the request as it goes to target n, over the transport of its hop (section 16.6)
abbrev pub request_to : OpenedRequest → Destination → ℕ → MessageText
request_to opened destination n =
    forwarded opened.request destination.uri (over opened.own destination.hop.transport) (branch_at opened n) (recorded_to opened destination.hop.transport)

-- the ACK for a failure of branch n (section 17.1.1.3)
abbrev pub ack_to : OpenedRequest → Destination → ℕ → MessageText → MessageText
ack_to opened destination n response = ack_of (request_to opened destination n) response

-- the CANCEL of branch n, with these Reason lines (section 9.1, RFC 3326)
abbrev pub cancel_to : OpenedRequest → Destination → ℕ → (reasons : List HeaderText) → MessageText
cancel_to opened destination n reasons = cancel_of (request_to opened destination n) reasons

-- ---- to the caller

-- the 100 may take the Timestamp line of the request (section 8.2.6.1)
abbrev pub further_lines : OpenedRequest → OwnStatus → List HeaderText
further_lines opened own.Trying = if opened.stamps then timestamp_lines opened.request else []
further_lines opened _ = []

abbrev pub generated : OpenedRequest → OwnStatus → MessageText
generated opened status = generated_of opened.request status (further_lines opened status)

abbrev pub text_of : Offer → List ℕ
text_of offer = offer.text

-- the contacts of a 3xx that the proxy did not try itself stand in it (section 16.7 step 4)
abbrev pub kept_of : StoredAnswer → Option (List (List ℕ))
kept_of answer = if nat_lt answer.status 400 then Some (map text_of answer.left) else None

abbrev pub kept_at : Option StoredAnswer → Option (List (List ℕ))
kept_at None = None
kept_at (Some answer) = kept_of answer

abbrev pub was_received : Option StoredAnswer → Bool
was_received None = false
was_received (Some answer) = answer.received

abbrev pub answer_in : Option Branch → Option MessageText
answer_in None = None
answer_in (Some branch) = branch.answer

-- the response of branch n as it goes up; a 408 where the proxy assumed one
abbrev pub best_of : Call → ℕ → Option MessageText → MessageText
best_of call n None = generated call.opened own.RequestTimeout
best_of call n (Some response) =
    if was_received (stored_at (slice_get (rows_of call) n))
    then upward_of response (kept_at (stored_at (slice_get (rows_of call) n))) (challenge_list (rows_of call) (Best n))
    else generated call.opened own.RequestTimeout

-- the final answer (section 16.7 steps 6 to 9)
abbrev pub final_of : Call → Choice → MessageText
final_of call (Best n) = best_of call n (answer_in (nth_branch call n))
final_of call (Only503 n) = generated call.opened own.ServerInternalError
final_of call NoAnswer408 = generated call.opened own.RequestTimeout

abbrev pub status_of : MessageText → ℕ
status_of m = of_start m.start
  where
    of_start : StartText → ℕ
    of_start (Request method uri) = 0
    of_start (Response status reason) = status

-- the answer that an owed one becomes; None for those that are no answer of the server transaction
abbrev pub answer_of : Call → Owed → Option MessageText
answer_of call Trying = Some (generated call.opened own.Trying)
answer_of call (Passed response) = Some (upward_of response None [])
answer_of call (Final choice) = Some (final_of call choice)
answer_of call Again = None
answer_of call (CancelOk cancel to) = None

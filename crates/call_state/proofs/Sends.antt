use Rattle.call_state.proofs.Common.{◌≡◌, ◌∙◌, ℕ, ap, refl, subst, sym, Bool, true, List, Option, Some, drop, slice_get, Kind, Log, Closing, MessageText, spelling, TxEvent, TxOut, Hop, OpenedRequest, Destination, kind_of, Branch, branch_start, Server, ServerTransaction, Owed, Call}
use Rattle.call_state.proofs.Common.{with_branch, request_to, status_of, Pumped, Send, AnswersBy}
use Rattle.call_model.specs.Take.{is_response}
use Rattle.call_model.specs.declared.cause.Cause.TheVariants as cause
use Rattle.call_model.specs.Server.{served_after, served_out, answer_event}
use Rattle.call_model.specs.Pump.{SendsRequest}

-- the request to target n is sent, where each part is as it was made
pub request_sent : (opened : OpenedRequest) (log : Log) (closing : Closing) (destinations : List Destination) (branches after : List (Option Branch)) (server : Server) (call : Call)
    (n now : ℕ) (destination : Destination) (to : Hop) (bytes sent : List ℕ) (kind : Kind) (branch : Branch)
    → record { opened = opened; log = log; closing = closing; destinations = destinations; branches = branches; server = server } ≡ call
    → slice_get destinations n ≡ Some destination
    → to ≡ destination.hop
    → bytes ≡ sent
    → sent ≡ spelling (request_to opened destination n)
    → kind ≡ kind_of opened
    → branch ≡ branch_start kind now destination sent
    → after ≡ with_branch branches n branch
    → (w : Destination) × (slice_get call.destinations n ≡ Some w)
    × SendsRequest call now n w (Send (record { to = to; bytes = bytes; cause = cause.Request n })) (record { opened = opened; log = log; closing = closing; destinations = destinations; branches = after; server = server })
request_sent opened log closing destinations branches after server call n now destination to bytes sent kind branch is found hop same spelled kinds starts puts =
    let old : Call = record { opened = opened; log = log; closing = closing; destinations = destinations; branches = branches; server = server } in
    let new : Call = record { opened = opened; log = log; closing = closing; destinations = destinations; branches = after; server = server } in
    let P : Call → Type 0 = λ x. (w : Destination) × (slice_get x.destinations n ≡ Some w) × SendsRequest x now n w (Send (record { to = to; bytes = bytes; cause = cause.Request n })) new in
    let text = spelling (request_to opened destination n) in
    let out : Send (record { to = to; bytes = bytes; cause = cause.Request n }) ≡ Send (record { to = destination.hop; bytes = text; cause = cause.Request n }) =
    let all : bytes ≡ text = same ∙ spelled in rw (hop, all) refl in
    let started : branch ≡ branch_start (kind_of opened) now destination text = starts ∙ (rw (kinds, spelled) refl) in
    let follows : new ≡ record { opened = opened; log = log; closing = closing; destinations = destinations; branches = with_branch branches n (branch_start (kind_of opened) now destination text); server = server } =
    rw (puts, started) refl in
    subst P is (destination, found, (out, follows))

-- an answer is sent that the server transaction sends, where each part is as it was made
pub answer_sent : (opened : OpenedRequest) (log : Log) (closing : Closing) (destinations : List Destination) (branches : List (Option Branch)) (served fed : ServerTransaction) (owed rest : List Owed) (before last : List ℕ) (call : Call)
    (answer : MessageText) (status now : ℕ) (event : TxEvent) (out : TxOut) (sends : Bool) (to : Hop) (bytes : List ℕ)
    → record { opened = opened; log = log; closing = closing; destinations = destinations; branches = branches; server = record { machine = served; owed = owed; last = before } } ≡ call
    → status ≡ status_of answer
    → event ≡ answer_event status
    → fed ≡ served_after event now served
    → out ≡ served_out event now served
    → sends ≡ is_response out.send
    → sends ≡ true
    → to ≡ opened.caller
    → bytes ≡ last
    → last ≡ spelling answer
    → rest ≡ drop 1 owed
    → AnswersBy call now (drop 1 call.server.owed) answer (is_response (served_out (answer_event (status_of answer)) now call.server.machine).send)
    (Send (record { to = to; bytes = bytes; cause = cause.Answer }))
    (record { opened = opened; log = log; closing = closing; destinations = destinations; branches = branches; server = record { machine = fed; owed = rest; last = last } })
answer_sent opened log closing destinations branches served fed owed rest before last call answer status now event out sends to bytes is status_is event_is fed_is out_is sends_is sent to_is same spelled rest_is =
    let new : Call = record { opened = opened; log = log; closing = closing; destinations = destinations; branches = branches; server = record { machine = fed; owed = rest; last = last } } in
    let old : Call = record { opened = opened; log = log; closing = closing; destinations = destinations; branches = branches; server = record { machine = served; owed = owed; last = before } } in
    let goes : Pumped = Send (record { to = to; bytes = bytes; cause = cause.Answer }) in
    let by : event ≡ answer_event (status_of answer) = event_is ∙ ap answer_event status_is in
    let out_by : served_out (answer_event (status_of answer)) now served ≡ out = sym (out_is ∙ ap (λ (e : TxEvent). served_out e now served) by) in
    let test : is_response (served_out (answer_event (status_of answer)) now served).send ≡ true = ap (λ (o : TxOut). is_response o.send) out_by ∙ sym sends_is ∙ sent in
    let fed_by : fed ≡ served_after (answer_event (status_of answer)) now served = fed_is ∙ ap (λ (e : TxEvent). served_after e now served) by in
    let text : bytes ≡ spelling answer = same ∙ spelled in
    let first : goes ≡ Send (record { to = opened.caller; bytes = spelling answer; cause = cause.Answer }) = rw (to_is, text) refl in
    let second : new ≡ record old { server = record { machine = served_after (answer_event (status_of answer)) now served; owed = drop 1 owed; last = spelling answer } } =
    rw (fed_by, rest_is, spelled) refl in
    let B : Bool → Type 0 = λ b. AnswersBy old now (drop 1 owed) answer b goes new in
    let C : Call → Type 0 = λ x. AnswersBy x now (drop 1 x.server.owed) answer (is_response (served_out (answer_event (status_of answer)) now x.server.machine).send) goes new in
    subst C is (subst B (sym test) (first, second))

-- An ACK or CANCEL is a message.
use Rattle.sip_builders.proofs.Common.{◌≡◌, ℕ, ◌-◌, ◌^◌, ◌<◌, true, false, List, [], ◌∷◌, ◌++◌, reverse, Option, Some, None, refl, ap, ◌∙◌, arith, codes, decimal, list_all, bytes_eq, and_from, reverse-append, list_all-append, is_token, number_within, Via, From}
use Rattle.sip_builders.proofs.Common.{To, CallId, CSeq, CSeqText, cseq_in, cseq_of, cseq_with, fits_start, length_name, message_cseq, said_by, value_of, IsMessage, fits_body, is_header, is_line, is_line_byte, is_start, is_trimmed, is_value, first_of, same_name}
use Rattle.sip_builders.proofs.Common.{begins_with_space, is_uri, HeaderText, MessageText, StartText, Request, line, lines_as, number_text, is_request, along, to_value, top_value, all_pass, decimal_high, high_line, high_no_space, is_high, no_space, common_steps}
use Rattle.std.proofs.lemmas.Fmt.{decimal_nonempty}
use Rattle.sip_text.specs.Name.{full_name, values_of}
use Rattle.sip_route.specs.Loop.{call_id, cseq_number, request_uri}
use Rattle.sip_build.specs.Requests.{ack_of, cancel_of, from_value}
use Rattle.sip_builders.proofs.laws.Named.{AreNamed, cseq_there, named_lines, none_in, none_missing, skip}
use Rattle.sip_lex.proofs.laws.Numbers.{number_read_within}
use Rattle.sip_builders.proofs.CSeqAgain.{IsMethod, cseq_again}
use Rattle.sip_builders.proofs.HeaderValues.{ends, first_good, joined_good, lines_good, top_good, values_good}

-- ---- the lines behind the Route lines

abbrev tail_lines : List ℕ → MessageText → List ℕ → List HeaderText → List HeaderText
tail_lines method sent to more =
    line (codes "From") (from_value sent)
    ∷ line (codes "To") to
    ∷ line (codes "Call-ID") (call_id sent)
    ∷ line (codes "CSeq") (cseq_number sent ++ 32 ∷ method)
    ∷ (more
    ++ line (codes "Content-Length") (codes "0") ∷ [])

abbrev from_routes : List ℕ → MessageText → List ℕ → List HeaderText → List HeaderText
from_routes method sent to more = lines_as (codes "Route") (codes "route") sent ++ tail_lines method sent to more

abbrev all_lines : List ℕ → MessageText → List ℕ → List HeaderText → List HeaderText
all_lines method sent to more = line (codes "Via") (top_value sent) ∷ line (codes "Max-Forwards") (codes "70") ∷ from_routes method sent to more

routes_named : (sent : MessageText) → AreNamed (codes "Route") (lines_as (codes "Route") (codes "route") sent)
unfolding full_name
routes_named sent = named_lines (codes "Route") (codes "Route") (values_of (codes "route") sent.headers) refl

-- past the lines before it
past : (name : List ℕ) (method : List ℕ) (sent : MessageText) (to : List ℕ) (more : List HeaderText) → same_name name (codes "Route") ≡ false → values_of name (from_routes method sent to more) ≡ values_of name (tail_lines method sent to more)
past name method sent to more other = skip name (codes "Route") (lines_as (codes "Route") (codes "route") sent) (tail_lines method sent to more) other (routes_named sent)

via_has : (method : List ℕ) (sent : MessageText) (to : List ℕ) (more : List HeaderText) → value_of Via (all_lines method sent to more) ≡ Some (top_value sent)
unfolding values_of full_name
via_has method sent to more = refl

from_has : (method : List ℕ) (sent : MessageText) (to : List ℕ) (more : List HeaderText) → value_of From (all_lines method sent to more) ≡ Some (from_value sent)
unfolding values_of full_name
from_has method sent to more = ap first_of (past (codes "from") method sent to more refl)

to_has : (method : List ℕ) (sent : MessageText) (to : List ℕ) (more : List HeaderText) → value_of To (all_lines method sent to more) ≡ Some to
unfolding values_of full_name
to_has method sent to more = ap first_of (past (codes "to") method sent to more refl)

call_has : (method : List ℕ) (sent : MessageText) (to : List ℕ) (more : List HeaderText) → value_of CallId (all_lines method sent to more) ≡ Some (call_id sent)
unfolding values_of full_name
call_has method sent to more = ap first_of (past (codes "call-id") method sent to more refl)

cseq_has : (method : List ℕ) (sent : MessageText) (to : List ℕ) (more : List HeaderText) → value_of CSeq (all_lines method sent to more) ≡ Some (cseq_number sent ++ 32 ∷ method)
unfolding values_of full_name
cseq_has method sent to more = ap first_of (past (codes "cseq") method sent to more refl)

length_is : (method : List ℕ) (sent : MessageText) (to : List ℕ) (more : List HeaderText) → values_of length_name more ≡ [] → values_of length_name (all_lines method sent to more) ≡ codes "0" ∷ []
unfolding values_of full_name
length_is method sent to more none = past length_name method sent to more refl ∙ none_in length_name more (line (codes "Content-Length") (codes "0") ∷ []) none

-- ---- the number of the CSeq

-- what a message's CSeq says, its number is read again
record IsCSeq (c : CSeqText) : Type 0 where
  small : c.number < 2 ^ 64
  within : number_within (2 ^ 31 - 1) (decimal c.number) ≡ Some c.number

abbrev number_in : Option CSeqText → ℕ
number_in None = 0
number_in (Some c) = c.number

with_parts : (o : Option ℕ) (method : List ℕ) (c : CSeqText) → cseq_with o method ≡ Some c → o ≡ Some c.number
with_parts o method c e = grind arith

cseq_is : (hs : List HeaderText) (c : CSeqText) → message_cseq hs ≡ Some c → IsCSeq c
cseq_is hs c e = grind (arith, number_read_within)

-- ---- header lines

cseq_value : (n : ℕ) (method : List ℕ) → n < 2 ^ 64 → is_line (32 ∷ method) ≡ true → begins_with_space (reverse (32 ∷ method) ++ reverse (decimal n)) ≡ false → is_value (decimal n ++ 32 ∷ method) ≡ true
cseq_value n method small tail last = grind (arith, common_steps, decimal_high n small, decimal_nonempty n small, and_from (is_line (decimal n ++ 32 ∷ method)) (is_trimmed (decimal n ++ 32 ∷ method)), list_all-append is_line_byte (decimal n) (32 ∷ method), reverse-append (decimal n) (32 ∷ method), ends, all_pass, is_high, no_space, high_no_space, high_line)

pub record IsOwnMethod (method : List ℕ) : Type 0 where
  pub is_method : IsMethod method
  pub tail : is_line (32 ∷ method) ≡ true
  pub last : (ds : List ℕ) → begins_with_space (reverse (32 ∷ method) ++ ds) ≡ false
  pub same : bytes_eq method method ≡ true

ack : IsOwnMethod (codes "ACK")
ack = record { is_method = record { token = refl; trimmed = refl }; tail = refl; last = λ ds. refl; same = refl }

cancel : IsOwnMethod (codes "CANCEL")
cancel = record { is_method = record { token = refl; trimmed = refl }; tail = refl; last = λ ds. refl; same = refl }

uri_good : (start : StartText) → is_request start ≡ true → is_start start ≡ true → is_uri (request_uri start) ≡ true
uri_good start is good = grind arith

tail_good : (method : List ℕ) (sent : MessageText) (to : List ℕ) (more : List HeaderText) → is_value (from_value sent) ≡ true → is_value to ≡ true → is_value (call_id sent) ≡ true → is_value (cseq_number sent ++ 32 ∷ method) ≡ true → list_all is_header more ≡ true → list_all is_header (tail_lines method sent to more) ≡ true
tail_good method sent to more from value call spoken good =
    let end = joined_good more (line (codes "Content-Length") (codes "0") ∷ []) good refl in
    grind (arith, end)

along_good : (method : List ℕ) (sent : MessageText) (to : List ℕ) (more : List HeaderText) → IsOwnMethod method → is_request sent.start ≡ true → is_value to ≡ true → list_all is_header more ≡ true → values_of length_name more ≡ [] → IsMessage sent → IsMessage (along method sent to more)
along_good method sent to more own request value good none is =
    let hs = sent.headers in
    let headers = is.head.headers in
    let there = cseq_there sent.start (message_cseq hs) is.head.cseq in
    let number = cseq_is hs there.0 there.1 in
    let text : cseq_number sent ≡ decimal there.0.number = ap number_text there.1 in
    let whole : cseq_number sent ++ 32 ∷ method ≡ decimal there.0.number ++ 32 ∷ method = ap (λ (t : List ℕ). t ++ 32 ∷ method) text in
    let spoken : is_value (cseq_number sent ++ 32 ∷ method) ≡ true = ap is_value whole ∙ cseq_value there.0.number method number.small own.tail (own.last (reverse (decimal there.0.number))) in
    let from = first_good (values_of (codes "from") hs) (values_good (codes "from") hs headers) in
    let call = first_good (values_of (codes "call-id") hs) (values_good (codes "call-id") hs headers) in
    let read : message_cseq (all_lines method sent to more) ≡ Some (record { number = there.0.number; method = method }) = ap cseq_in (cseq_has method sent to more) ∙ ap cseq_of whole ∙ cseq_again there.0.number method own.is_method number.small number.within in
    record {
      head = record {
        start = and_from (is_token method) (is_uri (request_uri sent.start)) own.is_method.token (uri_good sent.start request is.head.start);
        headers =
            and_from (is_value (top_value sent)) (list_all is_header (from_routes method sent to more)) (top_good sent headers)
            (joined_good (lines_as (codes "Route") (codes "route") sent) (tail_lines method sent to more) (lines_good (codes "Route") (values_of (codes "route") hs) refl (values_good (codes "route") hs headers))
            (tail_good method sent to more from value call spoken good));
        needed = none_missing (all_lines method sent to more) (record {
          via = (top_value sent, via_has method sent to more);
          from = (from_value sent, from_has method sent to more);
          to = (to, to_has method sent to more);
          call_id = (call_id sent, call_has method sent to more);
          cseq = (cseq_number sent ++ 32 ∷ method, cseq_has method sent to more);
        });
        cseq = ap (λ (o : Option CSeqText). fits_start (Request method (request_uri sent.start)) o) read ∙ own.same;
      };
      body = ap (λ (vs : List (List ℕ)). fits_body (said_by vs) 0) (length_is method sent to more none);
    }

pub no_length : values_of length_name [] ≡ []
unfolding values_of
no_length = refl

to_good : (m : MessageText) → IsMessage m → is_value (to_value m) ≡ true
to_good m is = first_good (values_of (codes "to") m.headers) (values_good (codes "to") m.headers is.head.headers)

pub ack_good : (sent response : MessageText) → is_request sent.start ≡ true → IsMessage sent → IsMessage response → IsMessage (ack_of sent response)
ack_good sent response request is other = along_good (codes "ACK") sent (to_value response) [] ack request (to_good response other) refl no_length is

pub cancel_good : (sent : MessageText) (reasons : List HeaderText) → is_request sent.start ≡ true → IsMessage sent → list_all is_header reasons ≡ true → values_of length_name reasons ≡ [] → IsMessage (cancel_of sent reasons)
cancel_good sent reasons request is good none = along_good (codes "CANCEL") sent (to_value sent) reasons cancel request (to_good sent is) good none is

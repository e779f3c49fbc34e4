-- The ACK for a failure and the CANCEL of a request that was sent (RFC 3261 sections 9.1 and 17.1.1.3, RFC 3326).
use Rattle.std.specs.Prelude.{ℕ, List, [], ◌∷◌, ◌++◌, codes}
use Rattle.sip_text.specs.declared.needed.MandatoryHeader.TheVariants.{From, To}
use Rattle.sip_text.specs.Fields.{value_of}
use Rattle.sip_text.specs.Text.{HeaderText, MessageText, Request}
use Rattle.sip_uri.specs.Uri.{Uri}
use Rattle.sip_uri.specs.Uri as uri
use Rattle.sip_branch.specs.declared.branch.BranchName.{BranchName}
use Rattle.sip_via.specs.declared.own.Own.{Own}
use Rattle.sip_via.specs.Edits.{line}
use Rattle.sip_route.specs.Lines.{lines_as, lines_named}
use Rattle.sip_via.specs.OwnVia.{own_via}
use Rattle.sip_route.specs.Loop.{call_id, cseq_number, request_uri}
use Rattle.sip_via.specs.ViaParts.{or_empty}
use Rattle.sip_via.specs.TopVia.{top_value}

abbrev pub from_value : MessageText → List ℕ
from_value m = or_empty (value_of From m.headers)

abbrev pub to_value : MessageText → List ℕ
to_value m = or_empty (value_of To m.headers)

-- a request of that method on the way of the sent one: its Request-URI, its top Via value alone, its
-- Route values, its From, its Call-ID, the number of its CSeq, and more lines
abbrev pub along : List ℕ → MessageText → (to : List ℕ) → (more : List HeaderText) → MessageText
along method sent to more = record {
  start = Request method (request_uri sent.start);
  headers =
      line (codes "Via") (top_value sent)
      ∷ line (codes "Max-Forwards") (codes "70")
      ∷ (lines_as (codes "Route") (codes "route") sent
      ++ line (codes "From") (from_value sent)
      ∷ line (codes "To") to
      ∷ line (codes "Call-ID") (call_id sent)
      ∷ line (codes "CSeq") (cseq_number sent ++ 32 ∷ method)
      ∷ (more
      ++ line (codes "Content-Length") (codes "0") ∷ []));
  body = [];
}

-- with the To of the response
abbrev pub ack_of : MessageText → MessageText → MessageText
ack_of sent response = along (codes "ACK") sent (to_value response) []

-- with the To of the request, and lines that say why it is sent
abbrev pub cancel_of : MessageText → (reasons : List HeaderText) → MessageText
cancel_of sent reasons = along (codes "CANCEL") sent (to_value sent) reasons

-- the Reason lines of a message as they stand
abbrev pub reason_lines : MessageText → List HeaderText
reason_lines m = lines_named (codes "reason") m

-- ---- of a request that was forwarded

-- a request of that method on the way of a request that went to a target: the target's URI, the proxy's own Via value
-- with that branch, of the request that came in its Route values, its From, its Call-ID and the number of its CSeq, and
-- more lines
abbrev pub along_to : List ℕ → MessageText → Uri → Own → BranchName → (to : List ℕ) → (more : List HeaderText) → MessageText
along_to method m target own branch to more = record {
  start = Request method (uri.request_uri target);
  headers =
      line (codes "Via") (own_via own branch)
      ∷ line (codes "Max-Forwards") (codes "70")
      ∷ (lines_as (codes "Route") (codes "route") m
      ++ line (codes "From") (from_value m)
      ∷ line (codes "To") to
      ∷ line (codes "Call-ID") (call_id m)
      ∷ line (codes "CSeq") (cseq_number m ++ 32 ∷ method)
      ∷ (more
      ++ line (codes "Content-Length") (codes "0") ∷ []));
  body = [];
}

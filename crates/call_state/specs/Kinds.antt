-- What a message is to a transaction: its method, or that of the request that it answers (RFC 3261 sections 17.1.3 and
-- 17.2.3).
use Rattle.std.specs.Prelude.{ℕ, Bool, true, false, List, Option, Some, None}
use Rattle.std.specs.Str.{bytes_eq}
use Rattle.sip_text.specs.Fields.{CSeqText}
use Rattle.sip_text.specs.Text.{StartText, Request, Response}

abbrev pub is_request_of : List ℕ → StartText → Bool
is_request_of method (Request own uri) = bytes_eq own method
is_request_of method (Response status reason) = false

abbrev pub is_response : StartText → Bool
is_response (Request method uri) = false
is_response (Response status reason) = true

abbrev pub is_to_method : List ℕ → Option CSeqText → Bool
is_to_method method None = false
is_to_method method (Some cseq) = bytes_eq cseq.method method

-- The proxy's own responses (RFC 3261 sections 8.2.6, 16.3 and 21).
use Rattle.std.specs.Prelude.{ℕ, Bool, false, List, [], ◌∷◌, ◌++◌, map, codes, is_none, if◌then◌else◌}
use Rattle.sip_text.specs.declared.needed.MandatoryHeader.TheVariants.{To}
use Rattle.sip_text.specs.Fields.{value_of}
use Rattle.sip_lex.specs.Tag.{tag_in}
use Rattle.sip_text.specs.Text.{HeaderText, MessageText, Response}
use Rattle.sip_build.specs.declared.responses.OwnStatus.{OwnStatus}
use Rattle.sip_build.specs.declared.responses.OwnStatus.TheVariants as own
use Rattle.sip_via.specs.Edits.{line}
use Rattle.sip_route.specs.Lines.{first_line, lines_as, lines_named}
use Rattle.sip_build.specs.OwnTag.{own_tag}

abbrev pub code_of : OwnStatus → ℕ
code_of own.Trying = 100
code_of own.Okay = 200
code_of own.BadRequest = 400
code_of own.Unauthorized = 401
code_of own.Forbidden = 403
code_of own.NotFound = 404
code_of own.ProxyAuthenticationRequired = 407
code_of own.RequestTimeout = 408
code_of own.UnsupportedUriScheme = 416
code_of own.BadExtension = 420
code_of own.IntervalTooBrief = 423
code_of own.TemporarilyUnavailable = 480
code_of own.CallDoesNotExist = 481
code_of own.LoopDetected = 482
code_of own.TooManyHops = 483
code_of own.ServerInternalError = 500
code_of own.ServiceUnavailable = 503

abbrev pub reason_of : OwnStatus → List ℕ
reason_of own.Trying = codes "Trying"
reason_of own.Okay = codes "OK"
reason_of own.BadRequest = codes "Bad Request"
reason_of own.Unauthorized = codes "Unauthorized"
reason_of own.Forbidden = codes "Forbidden"
reason_of own.NotFound = codes "Not Found"
reason_of own.ProxyAuthenticationRequired = codes "Proxy Authentication Required"
reason_of own.RequestTimeout = codes "Request Timeout"
reason_of own.UnsupportedUriScheme = codes "Unsupported URI Scheme"
reason_of own.BadExtension = codes "Bad Extension"
reason_of own.IntervalTooBrief = codes "Interval Too Brief"
reason_of own.TemporarilyUnavailable = codes "Temporarily Unavailable"
reason_of own.CallDoesNotExist = codes "Call/Transaction Does Not Exist"
reason_of own.LoopDetected = codes "Loop Detected"
reason_of own.TooManyHops = codes "Too Many Hops"
reason_of own.ServerInternalError = codes "Server Internal Error"
reason_of own.ServiceUnavailable = codes "Service Unavailable"

-- a 100 gets no tag, and neither does a To that has one
abbrev pub gets_tag : OwnStatus → MessageText → Bool
gets_tag own.Trying m = false
gets_tag _ m = is_none (tag_in (value_of To m.headers))

abbrev pub with_tag : List ℕ → List ℕ → List ℕ
with_tag tag value = value ++ (codes ";tag=" ++ tag)

abbrev pub tagged : List ℕ → HeaderText → HeaderText
tagged tag h = line h.name (with_tag tag h.value)

abbrev pub to_lines : OwnStatus → MessageText → List HeaderText
to_lines status m = if gets_tag status m then map (tagged (own_tag m)) (first_line (codes "to") m) else first_line (codes "to") m

-- a 420 names what the request asks for (section 20.40)
abbrev pub unsupported_lines : OwnStatus → MessageText → List HeaderText
unsupported_lines own.BadExtension m = lines_as (codes "Unsupported") (codes "proxy-require") m
unsupported_lines _ m = []

-- the first Timestamp line, which a 100 takes as it stands (section 8.2.6.1)
abbrev pub timestamp_lines : MessageText → List HeaderText
timestamp_lines m = first_line (codes "timestamp") m

-- the Via lines, the first From, To, Call-ID and CSeq lines as they stand, what the status asks for, and further lines
abbrev pub generated_of : MessageText → OwnStatus → (further : List HeaderText) → MessageText
generated_of m status further = record {
  start = Response (code_of status) (reason_of status);
  headers =
      lines_named (codes "via") m
      ++ (first_line (codes "from") m
      ++ (to_lines status m
      ++ (first_line (codes "call-id") m
      ++ (first_line (codes "cseq") m
      ++ (unsupported_lines status m
      ++ (further
      ++ line (codes "Content-Length") (codes "0") ∷ []))))));
  body = [];
}

-- A message's spelling is a text of it.
use Rattle.sip_text.proofs.Common.{◌≡◌, ◌≢◌, ℕ, Bool, true, false, ltb, List, [], ◌∷◌, ◌++◌, length, map, Ok, refl, ap, arith, codes, flat_map, list_all}
use Rattle.sip_text.proofs.Common.{AllByRecursion, and_parts, length-append, is_token, is_token_byte, IsLine}
use Rattle.sip_text.proofs.Common.{ended, pieces, token_bytes, trim-space, BodyLength, said_length, AreHeaders, IsBody, IsFull, IsHeader, IsStartLine, IsText, IsMessage, fits_body, is_header, is_line, is_line_byte, is_start}
use Rattle.sip_text.proofs.Common.{read_at, is_printed, is_status, is_uri, HeaderText, MessageText, StartText, Request, Response, header_text, start_line, common_steps}
use Rattle.sip_lex.proofs.laws.Cuts.{Lacks-pass}
use Rattle.sip_lex.proofs.laws.Trims.{token_lacks, trim_end-token}
use Rattle.sip_text.specs.Text.{header_line, spelling}
use Rattle.sip_text.proofs.laws.Good.{and_both, headers_good, line_of_lacks}
use Rattle.sip_text.proofs.StartLines.{start_line_good}
use Rattle.sip_text.proofs.laws.Whole.{headers_read, text_read}

-- ---- lines

line_of : (bs : List ℕ) → is_line bs ≡ true → IsLine bs
line_of bs h = record { no_cr = Lacks-pass is_line_byte 13 bs refl h; no_lf = Lacks-pass is_line_byte 10 bs refl h }

-- a test that neither CR nor LF passes
line_byte : (p : ℕ → Bool) (b : ℕ) → p 13 ≡ false → p 10 ≡ false → p b ≡ true → is_line_byte b ≡ true
line_byte p b x y h = grind arith

all_line : (p : ℕ → Bool) (bs : List ℕ) → p 13 ≡ false → p 10 ≡ false → list_all p bs ≡ true → is_line bs ≡ true
all_line p [] x y h = refl
all_line p (b ∷ bs) x y h = let both = and_parts (p b) (list_all p bs) h in and_both (is_line_byte b) (is_line bs) (line_byte p b x y both.0) (all_line p bs x y both.1)

token_line : (bs : List ℕ) → is_token bs ≡ true → is_line bs ≡ true
token_line bs h = all_line is_token_byte bs refl refl (token_bytes bs h)

uri_line : (bs : List ℕ) → is_uri bs ≡ true → is_line bs ≡ true
uri_line bs h = all_line is_printed bs refl refl (and_parts (ltb 0 (length bs)) (list_all is_printed bs) h).1

start_is_line : (s : StartText) → is_start s ≡ true → is_line (start_line s) ≡ true
start_is_line s h = grind (arith, common_steps, token_line, uri_line)

start_is : (s : StartText) → is_start s ≡ true → IsStartLine (start_line s) s
start_is (Request method uri) h = grind arith
start_is (Response status reason) h =
    let both = and_parts (is_status status) (is_line reason) h in
    record { gap = 32; second_gap = 32; version = codes "SIP/2.0"; parts = refl; gap_is = refl; second_gap_is = refl; version_is = refl; status_is = both.0 }

-- ---- headers

header_is_line : (h : HeaderText) → is_header h ≡ true → is_line (header_line h) ≡ true
header_is_line h good = grind (arith, common_steps, token_line)

header_full : (h : HeaderText) → (header_line h) ≢ []
header_full h e = let n : length (header_line h) ≡ 0 = ap length e in absurd (omega (arith, n, length-append h.name (58 ∷ (32 ∷ h.value))))

header_is : (h : HeaderText) → is_header h ≡ true → IsHeader (header_line h) [] h
header_is h good = grind (arith, common_steps, token_lacks, trim_end-token, trim-space)

all_full : (hs : List HeaderText) → list_all is_header hs ≡ true → AllByRecursion IsFull (map header_line hs)
all_full [] h = tt
all_full (x ∷ hs) h = let both = and_parts (is_header x) (list_all is_header hs) h in ((line_of (header_line x) (header_is_line x both.0), header_full x), all_full hs both.1)

are_headers : (hs : List HeaderText) → list_all is_header hs ≡ true → AreHeaders (map header_line hs) hs
are_headers [] h = refl
are_headers (x ∷ hs) h = let both = and_parts (is_header x) (list_all is_header hs) h in (header_line x, [], map header_line hs, refl, header_is x both.0, are_headers hs both.1)

same_text : (hs : List HeaderText) → flat_map header_text hs ≡ flat_map ended (map header_line hs)
same_text [] = refl
same_text (h ∷ hs) = ap (λ (x : List ℕ). ended (header_line h) ++ x) (same_text hs)

-- ---- the whole

body_fits : (said : BodyLength) (body : List ℕ) → fits_body said (length body) ≡ true → IsBody said body body
body_fits said body h = grind (arith, common_steps)

pub spelled : (m : MessageText) → IsMessage m → IsText (spelling m) m
spelled m is_message =
    let head = is_message.head in
    record {
      blank = 0;
      line = start_line m.start;
      lines = map header_line m.headers;
      rest = m.body;
      whole = ap (λ (x : List ℕ). ended (start_line m.start) ++ (x ++ (ended [] ++ m.body))) (same_text m.headers);
      is_line = line_of (start_line m.start) (start_is_line m.start head.start);
      are_full = all_full m.headers head.headers;
      start = start_is m.start head.start;
      headers = are_headers m.headers head.headers;
      needed = head.needed;
      cseq = head.cseq;
      body = body_fits (said_length m.headers) m.body is_message.body;
    }

-- what is written is read again
pub read_again : (m : MessageText) → IsMessage m → read_at (spelling m) ≡ Ok m
read_again m h = text_read (spelling m) m (spelled m h)

pub line_is : (bs : List ℕ) → IsLine bs → is_line bs ≡ true
line_is bs h = line_of_lacks bs h.no_cr h.no_lf

-- ---- what has a text is a message

fits_of_body : (said : BodyLength) (rest body : List ℕ) → IsBody said rest body → fits_body said (length body) ≡ true
fits_of_body said rest body h = grind arith

pub text_good : (text : List ℕ) (m : MessageText) → IsText text m → IsMessage m
text_good text m t = record {
  head = record {
    start = start_line_good t.line m.start t.start (line_is t.line t.is_line);
    headers = headers_good (flat_map ended t.lines ++ (ended [] ++ t.rest)) (m.headers, pieces 10 t.rest) (headers_read t.lines m.headers t.rest t.are_full t.headers);
    needed = t.needed;
    cseq = t.cseq;
  };
  body = fits_of_body (said_length m.headers) t.rest m.body t.body;
}

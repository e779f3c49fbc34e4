-- A request as it goes to a target is a message.
use Rattle.sip_builders.proofs.Common.{◌≡◌, ℕ, true, false, not, eqb, map, None, List, [], ◌∷◌, ◌++◌, length, Option, refl, ap, ◌∙◌, arith, ◌&&◌, codes, IfSome, is_none, list_all, and_parts, is_token, CSeqText, cseq_in, fits_start, said_by, IsMessage, fits_body}
use Rattle.sip_builders.proofs.Common.{is_header, is_start, is_value, first_of, first_value, is_uri, HeaderText, MessageText, StartText, and_both, Uri, request_uri, Own, BranchName, line, own_via, forwarded, hops_lowered, is_request, to_target, IsHops, hops_name}
use Rattle.sip_builders.proofs.Common.{all-replaced, common_steps}
use Rattle.std.proofs.Common.{ltb}
use Rattle.std.specs.Char.{to_ascii_lowercase}
use Rattle.sip_text.specs.Name.{full_name, values_of}
use Rattle.sip_lex.specs.Bytes.{is_printed}
use Rattle.sip_uri.specs.Grammar.{IsUri, is_uri_byte}
use Rattle.sip_via.proofs.laws.OwnVia.{decimal-value}
use Rattle.sip_via.proofs.laws.Replaced.{same-missing}
use Rattle.sip_build.proofs.laws.ForwardedOthers.{hops-others, via-others}

-- ---- the start line

printed : (b : ℕ) → is_uri_byte b ≡ true → is_printed b ≡ true
printed b h = (and_parts _ _ (and_parts _ _ (and_parts (is_printed b && not (eqb b 60) && not (eqb b 62)) (not (eqb b 34)) h).0).0).0

all-printed : (bs : List ℕ) → list_all is_uri_byte bs ≡ true → list_all is_printed bs ≡ true
all-printed [] h = refl
all-printed (b ∷ bs) h =
    let each = and_parts (is_uri_byte b) (list_all is_uri_byte bs) h in
    and_both (is_printed b) (list_all is_printed bs) (printed b each.0) (all-printed bs each.1)

some-scheme : (scheme rest : List ℕ) → map to_ascii_lowercase scheme ≡ codes "sip:" → ltb 0 (length (scheme ++ rest)) ≡ true
some-scheme scheme rest e = grind (arith, common_steps)

uri-good : (u : Uri) → IsUri u → list_all is_uri_byte (request_uri u) ≡ true → is_uri (request_uri u) ≡ true
uri-good u is h = and_both (ltb 0 (length (request_uri u))) (list_all is_printed (request_uri u)) (some-scheme u.scheme _ is.scheme) (all-printed (request_uri u) h)

start-good : (s : StartText) (u : Uri) → is_request s ≡ true → is_start s ≡ true → is_uri (request_uri u) ≡ true → is_start (to_target s u) ≡ true
start-good s u request h k = grind arith

cseq-same : (s : StartText) (u : Uri) (c : Option CSeqText) → fits_start (to_target s u) c ≡ fits_start s c
cseq-same s u c = grind arith

-- ---- the header lines

hops-good : (hs : List HeaderText) (o : Option (List ℕ)) → list_all is_header hs ≡ true → IfSome o IsHops → list_all is_header (hops_lowered hs o) ≡ true
hops-good hs o h is = grind (arith, all-replaced, decimal-value)

via-first : (v : List ℕ) (hs : List HeaderText) → is_none (first_value (codes "via") (line (codes "Via") v ∷ hs)) ≡ false
unfolding full_name values_of
via-first v hs = refl

pub forwarded-good : (m : MessageText) (target : Uri) (proxy : Own) (b : BranchName) → IsMessage m → is_request m.start ≡ true → IfSome (first_value hops_name m.headers) IsHops → IsUri target → list_all is_uri_byte (request_uri target) ≡ true → is_value (own_via proxy b) ≡ true → IsMessage (forwarded m target proxy b None)
forwarded-good m target proxy b good request hops uri bytes value =
    let lowered = hops_lowered m.headers (first_value hops_name m.headers) in
    let via = line (codes "Via") (own_via proxy b) in
    let hs = via ∷ lowered in
    let same = via-others (own_via proxy b) lowered m.headers (hops-others m.headers (first_value hops_name m.headers)) in record {
      head = record {
        start = start-good m.start target request good.head.start (uri-good target uri bytes);
        headers = and_both (is_header via) (list_all is_header lowered) (and_both (is_token (codes "Via")) (is_value (own_via proxy b)) refl value) (hops-good m.headers (first_value hops_name m.headers) good.head.headers hops);
        needed = same-missing hs m.headers (via-first (own_via proxy b) lowered) good.head.needed same;
        cseq = cseq-same m.start target _ ∙ ap (λ (v : List (List ℕ)). fits_start m.start (cseq_in (first_of v))) same.cseq ∙ good.head.cseq;
      };
      body = ap (λ (v : List (List ℕ)). fits_body (said_by v) (length m.body)) same.length ∙ good.body;
    }

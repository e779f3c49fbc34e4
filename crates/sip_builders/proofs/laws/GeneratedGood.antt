-- A response of the proxy's own is a message.
use Rattle.sip_builders.proofs.Common.{◌≡◌, ℕ, true, List, [], ◌∷◌, ◌++◌, map, take, Some, refl, ap, ◌∙◌, arith, codes, list_all, and_parts, and_from, cond_both, md5, Via, From, To, CallId, CSeq, length_name, said_by, value_of, IsMessage, fits_body, is_header}
use Rattle.sip_builders.proofs.Common.{is_line, is_line_byte, is_start, first_of, HeaderText, MessageText, Response, OwnStatus, code_of, generated_of, gets_tag, reason_of, tagged, to_lines, unsupported_lines, with_tag, line, first_line, lines_named}
use Rattle.sip_builders.proofs.Common.{field_lines, all_pass, high_line, high_no_space, is_high, no_space, common_steps}
use Rattle.sip_text.specs.Fields.{cseq_fits}
use Rattle.sip_text.specs.Name.{full_name, values_of}
use Rattle.sip_build.specs.OwnTag.{own_tag, tag_fields}
use Rattle.sip_builders.proofs.laws.Named.{AreNamed, Has, all_keep, cseq_there, first_keeps, has_all, named_filter, named_first, named_lines, none_in, none_missing, skip, tagged_keeps}
use Rattle.sip_via.proofs.laws.Tokens.{hex_text_high}
use Rattle.sip_builders.proofs.HeaderValues.{behind_good, filter_good, joined_good, lines_good, one_good, values_good}

-- ---- each part of the header lines is of one name

to_named : (status : OwnStatus) (m : MessageText) → AreNamed (codes "to") (to_lines status m)
to_named status m = grind (arith, named_filter)

unsupported_named : (status : OwnStatus) (m : MessageText) → AreNamed (codes "Unsupported") (unsupported_lines status m)
unfolding full_name
unsupported_named status m = grind (arith, named_lines)

via_named : (m : MessageText) → AreNamed (codes "via") (lines_named (codes "via") m)
via_named m = named_filter (codes "via") m.headers

first_named : (name : List ℕ) (m : MessageText) → AreNamed name (first_line name m)
first_named name m = named_first name (lines_named name m) (named_filter name m.headers)

-- ---- what stands behind each part

abbrev end_lines : List HeaderText → List HeaderText
end_lines further = further ++ line (codes "Content-Length") (codes "0") ∷ []

abbrev from_unsupported : OwnStatus → MessageText → List HeaderText → List HeaderText
from_unsupported status m further = unsupported_lines status m ++ end_lines further

abbrev from_cseq : OwnStatus → MessageText → List HeaderText → List HeaderText
from_cseq status m further = first_line (codes "cseq") m ++ from_unsupported status m further

abbrev from_call : OwnStatus → MessageText → List HeaderText → List HeaderText
from_call status m further = first_line (codes "call-id") m ++ from_cseq status m further

abbrev from_to : OwnStatus → MessageText → List HeaderText → List HeaderText
from_to status m further = to_lines status m ++ from_call status m further

abbrev from_from : OwnStatus → MessageText → List HeaderText → List HeaderText
from_from status m further = first_line (codes "from") m ++ from_to status m further

abbrev all_lines : OwnStatus → MessageText → List HeaderText → List HeaderText
all_lines status m further = lines_named (codes "via") m ++ from_from status m further

-- ---- the five that a message needs

via_has : (status : OwnStatus) (m : MessageText) (further : List HeaderText) → Has Via m.headers → Has Via (all_lines status m further)
via_has status m further h = (h.0, all_keep (codes "via") m.headers (from_from status m further) h.0 h.1)

from_has : (status : OwnStatus) (m : MessageText) (further : List HeaderText) → Has From m.headers → Has From (all_lines status m further)
unfolding full_name
from_has status m further h = (
  h.0,
  ap first_of (skip (codes "from") (codes "via") (lines_named (codes "via") m) (from_from status m further) refl (via_named m))
      ∙ first_keeps (codes "from") m.headers (from_to status m further) h.0 h.1,
)

to_there : (status : OwnStatus) (m : MessageText) (further : List HeaderText) → Has To m.headers → Has To (from_to status m further)
to_there status m further h =
    cond_both (gets_tag status m) (map (tagged (own_tag m)) (first_line (codes "to") m)) (first_line (codes "to") m) (λ (b : List HeaderText). Has To (b ++ from_call status m further))
    (λ e. (with_tag (own_tag m) h.0, tagged_keeps (codes "to") (own_tag m) m.headers (from_call status m further) h.0 h.1))
    (λ e. (h.0, first_keeps (codes "to") m.headers (from_call status m further) h.0 h.1))

to_has : (status : OwnStatus) (m : MessageText) (further : List HeaderText) → Has To m.headers → Has To (all_lines status m further)
unfolding full_name
to_has status m further h =
    let there = to_there status m further h in (
      there.0,
      ap first_of (skip (codes "to") (codes "via") (lines_named (codes "via") m) (from_from status m further) refl (via_named m)
          ∙ skip (codes "to") (codes "from") (first_line (codes "from") m) (from_to status m further) refl (first_named (codes "from") m))
          ∙ there.1,
    )

call_has : (status : OwnStatus) (m : MessageText) (further : List HeaderText) → Has CallId m.headers → Has CallId (all_lines status m further)
unfolding full_name
call_has status m further h = (
  h.0,
  ap first_of (skip (codes "call-id") (codes "via") (lines_named (codes "via") m) (from_from status m further) refl (via_named m)
      ∙ skip (codes "call-id") (codes "from") (first_line (codes "from") m) (from_to status m further) refl (first_named (codes "from") m)
      ∙ skip (codes "call-id") (codes "to") (to_lines status m) (from_call status m further) refl (to_named status m))
      ∙ first_keeps (codes "call-id") m.headers (from_cseq status m further) h.0 h.1,
)

cseq_has : (status : OwnStatus) (m : MessageText) (further : List HeaderText) → (h : Has CSeq m.headers) → value_of CSeq (all_lines status m further) ≡ Some h.0
unfolding full_name
cseq_has status m further h =
    ap first_of (skip (codes "cseq") (codes "via") (lines_named (codes "via") m) (from_from status m further) refl (via_named m)
    ∙ skip (codes "cseq") (codes "from") (first_line (codes "from") m) (from_to status m further) refl (first_named (codes "from") m)
    ∙ skip (codes "cseq") (codes "to") (to_lines status m) (from_call status m further) refl (to_named status m)
    ∙ skip (codes "cseq") (codes "call-id") (first_line (codes "call-id") m) (from_cseq status m further) refl (first_named (codes "call-id") m))
    ∙ first_keeps (codes "cseq") m.headers (from_unsupported status m further) h.0 h.1

-- ---- its length

own_length : values_of length_name (line (codes "Content-Length") (codes "0") ∷ []) ≡ codes "0" ∷ []
unfolding values_of full_name
own_length = refl

end_length : (further : List HeaderText) → values_of length_name further ≡ [] → values_of length_name (end_lines further) ≡ codes "0" ∷ []
end_length further none = none_in length_name further (line (codes "Content-Length") (codes "0") ∷ []) none ∙ own_length

length_is : (status : OwnStatus) (m : MessageText) (further : List HeaderText) → values_of length_name further ≡ [] → values_of length_name (all_lines status m further) ≡ codes "0" ∷ []
unfolding full_name
length_is status m further none =
    skip length_name (codes "via") (lines_named (codes "via") m) (from_from status m further) refl (via_named m)
    ∙ skip length_name (codes "from") (first_line (codes "from") m) (from_to status m further) refl (first_named (codes "from") m)
    ∙ skip length_name (codes "to") (to_lines status m) (from_call status m further) refl (to_named status m)
    ∙ skip length_name (codes "call-id") (first_line (codes "call-id") m) (from_cseq status m further) refl (first_named (codes "call-id") m)
    ∙ skip length_name (codes "cseq") (first_line (codes "cseq") m) (from_unsupported status m further) refl (first_named (codes "cseq") m)
    ∙ skip length_name (codes "Unsupported") (unsupported_lines status m) (end_lines further) refl (unsupported_named status m)
    ∙ end_length further none

-- ---- its header lines are header lines

tag_high : (m : MessageText) → list_all is_high (own_tag m) ≡ true
unfolding own_tag
tag_high m = hex_text_high (take 8 (md5 (field_lines (tag_fields m))))

tag_line : (m : MessageText) → is_line (codes ";tag=" ++ own_tag m) ≡ true
tag_line m = all_pass is_high is_line_byte (own_tag m) high_line (tag_high m)

tag_no_space : (m : MessageText) → list_all no_space (codes ";tag=" ++ own_tag m) ≡ true
tag_no_space m = all_pass is_high no_space (own_tag m) high_no_space (tag_high m)

tagged_good : (m : MessageText) (block : List HeaderText) → list_all is_header block ≡ true → list_all is_header (map (tagged (own_tag m)) block) ≡ true
tagged_good m [] h = refl
tagged_good m (x ∷ block) h =
    let each = and_parts (is_header x) (list_all is_header block) h in
    grind (arith, common_steps, tag_line m, tag_no_space m, and_from (is_header (tagged (own_tag m) x)) (list_all is_header (map (tagged (own_tag m)) block)), tagged_good m block each.1, and_parts, behind_good)

first_line_good : (name : List ℕ) (m : MessageText) → list_all is_header m.headers ≡ true → list_all is_header (first_line name m) ≡ true
first_line_good name m h = one_good (lines_named name m) (filter_good name m.headers h)

to_good : (status : OwnStatus) (m : MessageText) → list_all is_header m.headers ≡ true → list_all is_header (to_lines status m) ≡ true
to_good status m h = grind (arith, tagged_good, first_line_good)

unsupported_good : (status : OwnStatus) (m : MessageText) → list_all is_header m.headers ≡ true → list_all is_header (unsupported_lines status m) ≡ true
unsupported_good status m h = grind (arith, lines_good, values_good)

end_good : (further : List HeaderText) → list_all is_header further ≡ true → list_all is_header (end_lines further) ≡ true
end_good further f = joined_good further (line (codes "Content-Length") (codes "0") ∷ []) f refl

all_good : (status : OwnStatus) (m : MessageText) (further : List HeaderText) → list_all is_header m.headers ≡ true → list_all is_header further ≡ true → list_all is_header (all_lines status m further) ≡ true
all_good status m further h f =
    joined_good (lines_named (codes "via") m) (from_from status m further) (filter_good (codes "via") m.headers h)
    (joined_good (first_line (codes "from") m) (from_to status m further) (first_line_good (codes "from") m h)
    (joined_good (to_lines status m) (from_call status m further) (to_good status m h)
    (joined_good (first_line (codes "call-id") m) (from_cseq status m further) (first_line_good (codes "call-id") m h)
    (joined_good (first_line (codes "cseq") m) (from_unsupported status m further) (first_line_good (codes "cseq") m h)
    (joined_good (unsupported_lines status m) (end_lines further) (unsupported_good status m h) (end_good further f))))))

start_good : (status : OwnStatus) → is_start (Response (code_of status) (reason_of status)) ≡ true
start_good status = grind arith

fits_good : (status : OwnStatus) (m : MessageText) (further : List HeaderText) → (h : Has CSeq m.headers) → cseq_fits m.start m.headers ≡ true → cseq_fits (Response (code_of status) (reason_of status)) (all_lines status m further) ≡ true
fits_good status m further h fits = grind (arith, common_steps, cseq_has status m further h, cseq_there)

pub generated_good : (m : MessageText) (status : OwnStatus) (further : List HeaderText) → IsMessage m → list_all is_header further ≡ true → values_of length_name further ≡ [] → IsMessage (generated_of m status further)
generated_good m status further is good none =
    let has = has_all m.headers is.head.needed in
    record {
      head = record {
        start = start_good status;
        headers = all_good status m further is.head.headers good;
        needed = none_missing (all_lines status m further) (record {
          via = via_has status m further has.via;
          from = from_has status m further has.from;
          to = to_has status m further has.to;
          call_id = call_has status m further has.call_id;
          cseq = (has.cseq.0, cseq_has status m further has.cseq);
        });
        cseq = fits_good status m further has.cseq is.head.cseq;
      };
      body = ap (λ (vs : List (List ℕ)). fits_body (said_by vs) 0) (length_is status m further none);
    }

pub no_length : values_of length_name [] ≡ []
unfolding values_of
no_length = refl

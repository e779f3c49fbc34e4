-- What is read of a top Via value as it came is what the marked one says.
use Rattle.sip_via.proofs.Common.{◌≡◌, ◌∙◌, ℕ, true, false, List, Option, Some, None, Ok, Err, ap, refl, sym, subst, arith, common_steps, parts_of, is_via, via_of, IsMessage, IsSource, MessageText, first_via_line, with_via_line, BadVia, marked_line, trim, cond-true, option_map}
use Rattle.std.proofs.lemmas.Option.{same_Some}
use Rattle.std.specs.Prelude.{◌≤◌, Bool, Result, if◌then◌else◌}
use Rattle.sip_uri.specs.declared.hop.Hop.{Hop}
use Rattle.sip_via.specs.ReadTop.{IsReadTop, IsTopOf, ReadTop, begins_with_cookie, reply_if_read}
use Rattle.sip_via.specs.Received.{line_marked, marked, reply_of}
use Rattle.sip_via.specs.declared.own.ViaFault.{ViaFault}
use Rattle.sip_via.specs.Sender.{SenderText, sender, sender_if_read}
use Rattle.sip_via.specs.TopVia.{top_value}
use Rattle.sip_via.specs.ViaParts.{Parts, ViaText, branch_of, read_via, via_of_parts}
use Rattle.sip_via.specs.inner.CutLines.{IsCutLine}
use Rattle.sip_via.specs.inner.Replies.{reply_unmarked}
use Rattle.sip_via.specs.inner.SeenParts.{seen_parts}
use Rattle.sip_via.specs.declared.first_line.CutLine.{CutLine}
use Rattle.sip_via.proofs.laws.Marked.{marked-message}
use Rattle.sip_via.proofs.laws.MarkedMessage.{cut_line, readable, top-is, unreadable, was-marked}
use Rattle.sip_via.proofs.laws.MarkedValues.{reply-kept}

-- the first value of the first line, cut, is the top value
pub top-cut : (m : MessageText) (line : CutLine) (whole : List ℕ) → whole ≡ first_via_line m → IsCutLine line whole → (is_via (top_value m) ≡ true) × (seen_parts line.cut ≡ parts_of (top_value m))
top-cut m line whole e is =
    let value : line.value.now ≡ top_value m = is.value ∙ ap (λ (x : List ℕ). trim (cut_line x).0) e ∙ sym (top-is m) in
    (ap is_via (sym value) ∙ is.via, is.cut ∙ ap parts_of value)

-- the whole
pub read-so : (m : MessageText) (source : Hop) (top : ReadTop) (parts : Parts) → IsSource source → source.port ≤ 65535 → is_via (top_value m) ≡ true → parts ≡ parts_of (top_value m)
    → line_marked source (first_via_line m) ≡ Ok top.line → top.reply ≡ reply_unmarked (via_of_parts parts) source → top.cookie ≡ begins_with_cookie (branch_of (via_of_parts parts))
    → IsReadTop m source top
read-so m source top parts is small reads cut line reply cookie = record {
  reads = reads;
  line = grind arith;
  reply = λ n e. reply ∙ ap (λ (p : Parts). reply_unmarked (via_of_parts p) source) cut ∙ reply-kept m n source is small e;
  cookie = cookie ∙ ap (λ (p : Parts). begins_with_cookie (branch_of (via_of_parts p))) cut;
}

-- a line that is not marked holds none
pub not-read : (m : MessageText) (source : Hop) → line_marked source (first_via_line m) ≡ Err BadVia → is_via (top_value m) ≡ false
not-read m source e = grind (arith, top-is m)

-- a marked message is one
pub marked-good : (m n : MessageText) (source : Hop) → IsMessage m → IsSource source → marked m source ≡ Ok n → IsMessage n
marked-good m n source good is e =
    let w = was-marked m n source e in
    let reads : is_via (trim (cut_line (first_via_line m)).0) ≡ true = ap is_via (sym (top-is m)) ∙ w.reads in
    subst IsMessage (sym w.is) (marked-message m source (first_via_line m) (marked_line source (cut_line (first_via_line m))) good is refl (cond-true _ _ _ reads))

-- where the response goes
pub reply-told : (m n : MessageText) (source : Hop) (top : Option ReadTop) → IsTopOf m source top → marked m source ≡ Ok n → reply_if_read top source ≡ reply_of (via_of (top_value n)) source
reply-told m n source None is e = absurd (let wrong = unreadable m source is in cc)
reply-told m n source (Some top) is e = is.reply n e

-- the line that was read makes the marked message
pub line_marks : (m : MessageText) (source : Hop) (top : Option ReadTop) (line : List ℕ) → IsTopOf m source top → option_map (λ (t : ReadTop). t.line) top ≡ Some line → marked m source ≡ Ok (with_via_line m line)
line_marks m source None line is e = absurd cc
line_marks m source (Some top) line is e = is.line ∙ ap (λ (x : List ℕ). Ok (with_via_line m x)) (same_Some _ _ e)

-- where none was read it is not marked
pub none_marks : (m : MessageText) (source : Hop) (top : Option ReadTop) → IsTopOf m source top → option_map (λ (t : ReadTop). t.line) top ≡ None → marked m source ≡ Err BadVia
none_marks m source None is e = unreadable m source is
none_marks m source (Some top) is e = absurd cc

-- ---- what is read of the first line, cut

pub reads : (m : MessageText) (line : CutLine) (whole : List ℕ) → whole ≡ first_via_line m → IsCutLine line whole → is_via (top_value m) ≡ true
reads m line whole e is = (top-cut m line whole e is).0

pub read_by : (m : MessageText) (source : Hop) (top : ReadTop) (whole : List ℕ) (line : CutLine) (s : SenderText) → IsSource source → source.port ≤ 65535 → whole ≡ first_via_line m → IsCutLine line whole
    → line_marked source whole ≡ Ok top.line → top.reply ≡ reply_unmarked (via_of_parts (seen_parts line.cut)) source → s ≡ sender (via_of_parts (seen_parts line.cut)) → top.cookie ≡ begins_with_cookie s.branch
    → IsReadTop m source top
read_by m source top whole line s is small e cut marked reply named cookie =
    let t = top-cut m line whole e cut in
    read-so m source top (seen_parts line.cut) is small t.0 t.1 (ap (line_marked source) (sym e) ∙ marked) reply (cookie ∙ ap (λ (x : SenderText). begins_with_cookie x.branch) named)

abbrev read_at : MessageText → Bool → Result ViaText ViaFault
read_at m b = if b then Ok (via_of (top_value m)) else Err BadVia

pub sender_told : (m : MessageText) (whole : List ℕ) (line : CutLine) (s : SenderText) → whole ≡ first_via_line m → IsCutLine line whole → s ≡ sender (via_of_parts (seen_parts line.cut)) → Some s ≡ sender_if_read (read_via (top_value m))
sender_told m whole line s e cut named =
    let t = top-cut m line whole e cut in
    ap (λ (x : SenderText). Some x) (named ∙ ap (λ (p : Parts). sender (via_of_parts p)) t.1) ∙ sym (ap (λ (b : Bool). sender_if_read (read_at m b)) t.0)

-- and where it holds no value that can be read
pub not_read : (m : MessageText) (whole : List ℕ) → whole ≡ first_via_line m → ((source : Hop) → line_marked source whole ≡ Err BadVia) → (source : Hop) → is_via (top_value m) ≡ false
not_read m whole e none source = not-read m source (ap (line_marked source) (sym e) ∙ none source)

pub no_sender : (m : MessageText) (whole : List ℕ) (source : Hop) → whole ≡ first_via_line m → ((from : Hop) → line_marked from whole ≡ Err BadVia) → None ≡ sender_if_read (read_via (top_value m))
no_sender m whole source e none = sym (ap (λ (b : Bool). sender_if_read (read_at m b)) (not_read m whole e none source))

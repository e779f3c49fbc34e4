-- What marking does to the Via values of a message.
use Rattle.sip_via.proofs.Common.{◌≡◌, ℕ, true, List, [], ◌∷◌, ◌++◌, length, map, drop, Some, Result, Ok, refl, sym, ap, subst, ◌∙◌, append_assoc, arith, AllByRecursion, flat_map, drop_at, Quotes, Plain, trim, trim_end, trim_start, behind, pieces_outside_behind}
use Rattle.sip_via.proofs.Common.{pieces_outside-cut, cut_outside_again, trim_end-whole, first_of, HeaderText, MessageText, Hop, ViaFault, replaced, IsSource, marked_line, marked_value, values_in, IsSpace, IsVia, IsViaParam, ViaText, is_via, or_empty, read_via, via_of, common_steps}
use Rattle.sip_via.specs.ViaParts.{branch_of, is_rport}
use Rattle.std.specs.Prelude.{◌≤◌}
use Rattle.std.specs.List.{list_any}
use Rattle.sip_text.specs.Name.{values_of}
use Rattle.sip_uri.specs.declared.hop.Transport.{Transport}
use Rattle.sip_uri.specs.declared.hop.Transport.TheVariants.{Udp, Tcp, Back}
use Rattle.sip_via.specs.Received.{marked, reply_of, reply_over}
use Rattle.sip_via.specs.inner.Replies.{gives_port, reply_unmarked, reply_unmarked_over}
use Rattle.sip_via.specs.TopVia.{first_or_empty, top_value, via_values}
use Rattle.sip_via.proofs.laws.Marked.{BeginsPlain, trim_end-back, via-begins}
use Rattle.sip_via.proofs.laws.MarkedMessage.{Cut, cut_line, top-is, values-line, was-marked}
use Rattle.sip_via.proofs.laws.ViaFronts.{IsFront, core, core-unsplit, spelled, spelling-split}
use Rattle.sip_via.proofs.laws.MarkedVia.{end-trims, marked-via}
use Rattle.sip_via.proofs.laws.ViaOnly.{IsBare, IsUnsplit, Starts, all_joined, bare_trim, unsplit_all, unsplit_append, unsplit_byte, unsplit_empty, unsplit_join, comma, neither, on_some, param_unsplit, space_unsplit, via_again}

-- ---- a Via value holds no comma outside quotes

params-unsplit : (params : List (List ℕ)) → AllByRecursion IsViaParam params → IsUnsplit 44 Plain (spelled params)
params-unsplit [] all = unsplit_empty 44
params-unsplit (p ∷ ps) all = unsplit_byte 44 59 (p ++ spelled ps) refl refl (unsplit_join 44 Plain p (spelled ps) (param_unsplit 44 comma p all.0) (params-unsplit ps all.1))

via-unsplit : (text : List ℕ) (via : ViaText) → IsVia text via → IsUnsplit 44 Plain text
via-unsplit text via h =
    let g = h.gaps in
    let f : IsFront g via = record { spaces = h.spaces; transport = h.transport; host = h.host; port = h.port } in
    let front = core g via ++ g.before_params in
    let split : text ≡ front ++ spelled via.params = h.spelled ∙ spelling-split g via via.params ∙ sym (append_assoc (core g via) g.before_params (spelled via.params)) in
    subst (IsUnsplit 44 Plain) (sym split)
    (unsplit_append 44 comma front (all_joined neither (core g via) g.before_params (core-unsplit g via f) (space_unsplit g.before_params h.spaces.before_params)) (spelled via.params) (params-unsplit via.params h.params))

-- ---- a value that is read

abbrev via_ok : ViaText → Result ViaText ViaFault
via_ok via = Ok via

ok_is : (x y : ViaText) → via_ok x ≡ via_ok y → x ≡ y
ok_is x y e = cc

pub read-is : (text : List ℕ) (via : ViaText) → read_via text ≡ Ok via → (is_via text ≡ true) × (via_of text ≡ via)
read-is text via e = grind arith

begins-starts : (text : List ℕ) → BeginsPlain text → Starts text
begins-starts text b = subst Starts (sym b.is) b.no_space

via-bare : (text : List ℕ) (via : ViaText) → IsVia text via → IsBare text
via-bare text via h = grind (arith, common_steps, via-begins text (read-is text via (via_again text via h)).0, trim_end-back (trim_start text), read-is, via_again, begins-starts, end-trims)

-- ---- the line with its first value marked

space-behind : (text : List ℕ) → IsSpace (drop (length (trim_end text)) text)
space-behind text = grind (arith, common_steps, trim_end-whole text, drop_at)

abbrev of_cut : Cut → List (List ℕ)
of_cut c = c.0 ∷ pieces_outside_behind Quotes 44 c.1

values-marked : (source : Hop) (c : Cut) → IsSource source → is_via (trim c.0) ≡ true → values_in (marked_line source c) ≡ marked_value source (trim c.0) ∷ map trim (pieces_outside_behind Quotes 44 c.1)
values-marked source (top, others) is h =
    let value = marked_value source (trim top) in
    let space = drop (length (trim_end top)) top in
    let spaces = space-behind top in
    let m = marked-via source (trim top) is h in
    let unsplit = unsplit_join 44 Plain value space (via-unsplit value m.new m.is) (unsplit_all 44 comma space (space_unsplit space spaces)) in
    let cuts : cut_line (value ++ (space ++ behind 44 others)) ≡ (value ++ space, others) = ap cut_line (sym (append_assoc value space (behind 44 others))) ∙ cut_outside_again Quotes 44 Plain (value ++ space) others unsplit.lacks (on_some others _ unsplit.ends) in
    ap (λ (ps : List (List ℕ)). map trim ps) (pieces_outside-cut Quotes 44 (value ++ (space ++ behind 44 others)) ∙ ap of_cut cuts)
    ∙ ap (λ (v : List ℕ). v ∷ map trim (pieces_outside_behind Quotes 44 others)) (bare_trim [] value space refl spaces (via-bare value m.new m.is))

-- ---- the lines of that name

abbrev first_changed : List ℕ → List (List ℕ) → List (List ℕ)
first_changed v [] = []
first_changed v (x ∷ xs) = v ∷ xs

values-own : (name v : List ℕ) (hs : List HeaderText) → values_of name (replaced name (Some v) hs) ≡ first_changed v (values_of name hs)
unfolding values_of
values-own name v [] = refl
values-own name v (h ∷ hs) = grind (arith, values-own name v hs)

lines-changed : (source : Hop) (lines : List (List ℕ)) → IsSource source → is_via (trim (cut_line (or_empty (first_of lines))).0) ≡ true → flat_map values_in (first_changed (marked_line source (cut_line (or_empty (first_of lines)))) lines) ≡ marked_value source (trim (cut_line (or_empty (first_of lines))).0) ∷ drop 1 (flat_map values_in lines)
lines-changed source [] is h = let wrong = (via-begins [] h).is in absurd cc
lines-changed source (text ∷ lines) is h = grind (arith, values-marked, values-line)

-- ---- the message

pub values-of-marked : (m n : MessageText) (source : Hop) → IsSource source → marked m source ≡ Ok n → via_values n ≡ marked_value source (top_value m) ∷ drop 1 (via_values m)
values-of-marked m n source is e = grind (arith, common_steps, was-marked m n source e, top-is m, values-own, lines-changed)

-- what the top value says
pub record SaysTheSame (m n : MessageText) : Type 0 where
  pub reads : is_via (top_value n) ≡ true
  pub host : (via_of (top_value n)).host ≡ (via_of (top_value m)).host
  pub port : (via_of (top_value n)).port ≡ (via_of (top_value m)).port
  pub branch : branch_of (via_of (top_value n)) ≡ branch_of (via_of (top_value m))

pub says-the-same : (m n : MessageText) (source : Hop) → IsSource source → marked m source ≡ Ok n → SaysTheSame m n
says-the-same m n source is e =
    let w = was-marked m n source e in
    let v = marked-via source (top_value m) is w.reads in
    let top : top_value n ≡ marked_value source (top_value m) = ap first_or_empty (values-of-marked m n source is e) in
    let read = read-is (marked_value source (top_value m)) v.new (via_again (marked_value source (top_value m)) v.new v.is) in
    grind (arith, common_steps)

-- ---- where the response goes

reply-over : (source : Hop) (via new : ViaText) (transport : Transport) → new.port ≡ via.port → list_any (is_rport source.port) new.params ≡ list_any (gives_port source.port) via.params → reply_unmarked_over transport via source ≡ reply_over transport new source
reply-over source via new Udp port says = grind arith
reply-over source via new Tcp port says = grind arith
reply-over source via new (Back by) port says = grind arith

-- the top value as it came tells it as the marked one does
pub reply-kept : (m n : MessageText) (source : Hop) → IsSource source → source.port ≤ 65535 → marked m source ≡ Ok n → reply_unmarked (via_of (top_value m)) source ≡ reply_of (via_of (top_value n)) source
reply-kept m n source is small e =
    let w = was-marked m n source e in
    let v = marked-via source (top_value m) is w.reads in
    let top : top_value n ≡ marked_value source (top_value m) = ap first_or_empty (values-of-marked m n source is e) in
    let read = read-is (marked_value source (top_value m)) v.new (via_again (marked_value source (top_value m)) v.new v.is) in
    let new : via_of (top_value n) ≡ v.new = ap via_of top ∙ read.1 in
    reply-over source (via_of (top_value m)) (via_of (top_value n)) source.transport (ap (λ (x : ViaText). x.port) new ∙ v.port) (ap (λ (x : ViaText). list_any (is_rport source.port) x.params) new ∙ v.rport small)

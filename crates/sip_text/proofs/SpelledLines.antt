-- Header lines that stand in a text as they are written.
use Rattle.std.proofs.Common.{◌≡◌, ℕ, suc, ◌+◌, ◌-◌, ◌≤◌, ◌<◌, ◌↔◌, List, [], ◌∷◌, ◌++◌, length, get_or, take, drop, slice_range, sym, ap, ◌∙◌, arith, append_assoc, length-take, take-add, drop-drop, drop-cons}
use Rattle.std.specs.List.{flat_map}
use Rattle.std.proofs.Common.{subst, take_all}
use Rattle.std.proofs.Math.Seq.{get_or-append_seam}
use Rattle.std.proofs.lemmas.List.{get_or-drop, get_or-take, length-append, length-drop, length-take-le}
use Rattle.sip_text.specs.inner.Within.{AreLinesWithin, IsLineWithin}
use Rattle.sip_text.specs.declared.place.LinePlaces.{LinePlaces}
use Rattle.sip_text.specs.Written.{AreWritten, IsWritten, line_end}
use Rattle.sip_text.specs.Seen.{headers_in}
use Rattle.sip_text.specs.Text.{header_text}

two_at : (text : List ℕ) (at a b : ℕ) → at + 2 ≤ length text → get_or text at 0 ≡ a → get_or text (at + 1) 0 ≡ b → drop at text ≡ a ∷ b ∷ drop (at + 2) text
two_at text at a b fits first second =
    let one : drop at text ≡ get_or text at 0 ∷ drop (suc at) text = drop-cons text at 0 (omega arith) in
    let two : drop (suc at) text ≡ get_or text (suc at) 0 ∷ drop (suc (suc at)) text = drop-cons text (suc at) 0 (omega arith) in
    let next : suc at ≡ at + 1 = omega arith in
    let behind : suc (suc at) ≡ at + 2 = omega arith in
    one
    ∙ ap (λ (x : ℕ). x ∷ drop (suc at) text) first
    ∙ ap (λ (l : List ℕ). a ∷ l)
    (two ∙ ap (λ (x : ℕ). x ∷ drop (suc (suc at)) text) (ap (λ (k : ℕ). get_or text k 0) next ∙ second) ∙ ap (λ (k : ℕ). b ∷ drop k text) behind)

take_two : (text : List ℕ) (at a b m : ℕ) → at + 2 ≤ length text → get_or text at 0 ≡ a → get_or text (at + 1) 0 ≡ b → take (2 + m) (drop at text) ≡ a ∷ b ∷ take m (drop (at + 2) text)
take_two text at a b m fits first second =
    let more : 2 + m ≡ suc (suc m) = omega arith in
    ap (take (2 + m)) (two_at text at a b fits first second) ∙ ap (λ (k : ℕ). take k (a ∷ b ∷ drop (at + 2) text)) more

line_at : (text : List ℕ) (at n v : ℕ) → at + n + 2 + v + 2 ≤ length text
    → get_or text (at + n) 0 ≡ 58 → get_or text (at + n + 1) 0 ≡ 32 → get_or text (at + n + 2 + v) 0 ≡ 13 → get_or text (at + n + 2 + v + 1) 0 ≡ 10
    → take (n + (2 + (v + 2))) (drop at text) ≡ (take n (drop at text) ++ (58 ∷ 32 ∷ take v (drop (at + n + 2) text))) ++ 13 ∷ 10 ∷ []
line_at text at n v fits colon space cr lf =
    let rest = drop (at + n + 2) text in
    let end : take (v + 2) rest ≡ take v rest ++ 13 ∷ 10 ∷ [] =
    take-add v 2 rest
    ∙ ap (λ (l : List ℕ). take v rest ++ take 2 l) (drop-drop v (at + n + 2) text)
    ∙ ap (λ (l : List ℕ). take v rest ++ l) (take_two text (at + n + 2 + v) 13 10 0 (omega arith) cr lf) in
    take-add n (2 + (v + 2)) (drop at text)
    ∙ ap (λ (l : List ℕ). take n (drop at text) ++ take (2 + (v + 2)) l) (drop-drop n at text)
    ∙ ap (λ (l : List ℕ). take n (drop at text) ++ l) (take_two text (at + n) 58 32 (v + 2) (omega arith) colon space)
    ∙ ap (λ (l : List ℕ). take n (drop at text) ++ (58 ∷ 32 ∷ l)) end
    ∙ sym (append_assoc (take n (drop at text)) (58 ∷ 32 ∷ take v rest) (13 ∷ 10 ∷ []))

pub is_written : (text : List ℕ) (at : ℕ) (line : LinePlaces) → line.name.start ≡ at → 2 ≤ line.value.start → line.value.start - 2 ≡ line.name.start + line.name.len → line.value.start + line.value.len + 2 ≤ length text
    → get_or text (line.name.start + line.name.len) 0 ≡ 58 → get_or text (line.name.start + line.name.len + 1) 0 ≡ 32 → get_or text (line.value.start + line.value.len) 0 ≡ 13 → get_or text (line.value.start + line.value.len + 1) 0 ≡ 10
    → IsWritten text at line
is_written text at line name_at more value_at within colon space cr lf =
    let n = line.name.len in
    let v = line.value.len in
    let spelled = line_at text at n v (omega arith)
    (ap (λ (k : ℕ). get_or text k 0) {x = at + n} {y = line.name.start + line.name.len} (omega arith) ∙ colon)
    (ap (λ (k : ℕ). get_or text k 0) {x = at + n + 1} {y = line.name.start + line.name.len + 1} (omega arith) ∙ space)
    (ap (λ (k : ℕ). get_or text k 0) {x = at + n + 2 + v} {y = line.value.start + line.value.len} (omega arith) ∙ cr)
    (ap (λ (k : ℕ). get_or text k 0) {x = at + n + 2 + v + 1} {y = line.value.start + line.value.len + 1} (omega arith) ∙ lf) in
    record {
      name = name_at;
      value = omega arith;
      within = within;
      spelled =
          ap (λ (k : ℕ). take k (drop at text)) {x = line.value.start + line.value.len + 2 - at} {y = n + (2 + (v + 2))} (omega arith)
          ∙ spelled
          ∙ ap (λ (k : ℕ). (take n (drop at text) ++ (58 ∷ 32 ∷ take v (drop k text))) ++ 13 ∷ 10 ∷ []) {x = at + n + 2} {y = line.value.start} (omega arith)
          ∙ ap (λ (k : ℕ). (take n (drop k text) ++ (58 ∷ 32 ∷ take v (drop line.value.start text))) ++ 13 ∷ 10 ∷ []) (sym name_at);
    }

-- the byte behind the front of what stands from a place on
mark_at : (text front back : List ℕ) (at k b : ℕ) → take k (drop at text) ≡ front ++ b ∷ back → get_or text (at + length front) 0 ≡ b
mark_at text front back at k b e =
    let below : length front < k = omega (arith, ap length e, length-take k (drop at text), length-append front (b ∷ back)) in
    sym (get_or-drop at text (length front) 0)
    ∙ sym (get_or-take k (drop at text) (length front) 0 below)
    ∙ ap (λ (l : List ℕ). get_or l (length front) 0) e
    ∙ get_or-append_seam front b back 0

-- the bytes by which a line is told that stands as it is written
pub record HasMarks (text : List ℕ) (line : LinePlaces) : Type 0 where
  pub colon : get_or text (line.name.start + line.name.len) 0 ≡ 58
  pub space : get_or text (line.name.start + line.name.len + 1) 0 ≡ 32
  pub cr : get_or text (line.value.start + line.value.len) 0 ≡ 13
  pub lf : get_or text (line.value.start + line.value.len + 1) 0 ≡ 10

length_within : (text : List ℕ) (start len : ℕ) → start + len ≤ length text → length (take len (drop start text)) ≡ len
length_within text start len within = length-take-le len (drop start text) (omega (arith, length-drop start text))

pub has_marks : (text : List ℕ) (at : ℕ) (line : LinePlaces) → IsLineWithin (length text) line → IsWritten text at line → HasMarks text line
has_marks text at line within w =
    let name = take line.name.len (drop line.name.start text) in
    let value = take line.value.len (drop line.value.start text) in
    let k = line_end line - at in
    let n : length name ≡ line.name.len = length_within text line.name.start line.name.len within.0 in
    let v : length value ≡ line.value.len = length_within text line.value.start line.value.len within.1 in
    let head = name ++ (58 ∷ 32 ∷ value) in
    let head_len : length head ≡ line.name.len + (2 + line.value.len) = omega (arith, length-append name (58 ∷ 32 ∷ value), n, v) in
    let colon = mark_at text name ((32 ∷ value) ++ 13 ∷ 10 ∷ []) at k 58 (w.spelled ∙ append_assoc name (58 ∷ 32 ∷ value) (13 ∷ 10 ∷ [])) in
    let space = mark_at text (name ++ 58 ∷ []) (value ++ 13 ∷ 10 ∷ []) at k 32
    (w.spelled ∙ append_assoc name (58 ∷ 32 ∷ value) (13 ∷ 10 ∷ []) ∙ sym (append_assoc name (58 ∷ []) (32 ∷ (value ++ 13 ∷ 10 ∷ [])))) in
    let cr = mark_at text head (10 ∷ []) at k 13 w.spelled in
    let lf = mark_at text (head ++ 13 ∷ []) [] at k 10 (w.spelled ∙ sym (append_assoc head (13 ∷ []) (10 ∷ []))) in
    record {
      colon = ap (λ (i : ℕ). get_or text i 0) {x = line.name.start + line.name.len} {y = at + length name} (omega (arith, w.name, n)) ∙ colon;
      space = ap (λ (i : ℕ). get_or text i 0) {x = line.name.start + line.name.len + 1} {y = at + length (name ++ 58 ∷ [])} (omega (arith, w.name, n, length-append name (58 ∷ []))) ∙ space;
      cr = ap (λ (i : ℕ). get_or text i 0) {x = line.value.start + line.value.len} {y = at + length head} (omega (arith, w.value, head_len)) ∙ cr;
      lf = ap (λ (i : ℕ). get_or text i 0) {x = line.value.start + line.value.len + 1} {y = at + length (head ++ 13 ∷ [])} (omega (arith, w.value, head_len, length-append head (13 ∷ []))) ∙ lf;
    }

-- ---- several lines, one behind another

range_joins : (text : List ℕ) (at mid end : ℕ) → at ≤ mid → mid ≤ end → end ≤ length text → slice_range text at end ≡ slice_range text at mid ++ slice_range text mid end
range_joins text at mid end first second within =
    ap (λ (k : ℕ). take k (drop at text)) {x = end - at} {y = (mid - at) + (end - mid)} (omega arith)
    ∙ take-add (mid - at) (end - mid) (drop at text)
    ∙ ap (λ (l : List ℕ). take (mid - at) (drop at text) ++ take (end - mid) l)
    (drop-drop (mid - at) at text ∙ ap (λ (k : ℕ). drop k text) {x = at + (mid - at)} {y = mid} (omega arith))

-- a line that stands so ends behind where it begins
forward : (text : List ℕ) (at : ℕ) (line : LinePlaces) → IsWritten text at line → at ≤ line_end line
forward text at line written = omega (arith, written.value)

one_more : (text : List ℕ) (at mid : ℕ) (line : LinePlaces) (more : List LinePlaces) (all : List ℕ) → at ≤ mid → IsWritten text mid line
    → all ≡ slice_range text at mid ++ flat_map header_text (headers_in text (line ∷ more)) → all ≡ slice_range text at (line_end line) ++ flat_map header_text (headers_in text more)
one_more text at mid line more all first written whole =
    let rest = flat_map header_text (headers_in text more) in
    whole
    ∙ ap (λ (l : List ℕ). slice_range text at mid ++ (l ++ rest)) (sym written.spelled)
    ∙ sym (append_assoc (slice_range text at mid) (slice_range text mid (line_end line)) rest)
    ∙ ap (λ (l : List ℕ). l ++ rest) (sym (range_joins text at mid (line_end line) first (forward text mid line written) written.within))

-- what is known behind one line more
pub record IsBehind (text : List ℕ) (at end : ℕ) (lines rest : List LinePlaces) (all : List ℕ) : Type 0 where
  pub ordered : at ≤ end
  pub end_within : end ≤ length text
  pub within : AreLinesWithin (length text) rest
  pub spelled : all ≡ slice_range text at end ++ flat_map header_text (headers_in text rest)
  pub written : AreWritten text at lines ↔ AreWritten text end rest

module _ (text : List ℕ) (at mid : ℕ) (lines : List LinePlaces) (all : List ℕ) where
  behind_line : (line : LinePlaces) (more : List LinePlaces) → at ≤ mid → AreLinesWithin (length text) (line ∷ more) → IsWritten text mid line
      → all ≡ slice_range text at mid ++ flat_map header_text (headers_in text (line ∷ more)) → AreWritten text at lines ↔ AreWritten text mid (line ∷ more)
      → IsBehind text at (line_end line) lines more all
  behind_line line more first within written whole so_far = record {
    ordered = omega (arith, first, forward text mid line written);
    end_within = written.within;
    within = within.1;
    spelled = one_more text at mid line more all first written whole;
    written = (λ are. (so_far.0 are).1, λ are. so_far.1 (written, are));
  }

  pub behind_one : (end : ℕ) (rest : List LinePlaces) (default : LinePlaces) → 1 ≤ length rest → at ≤ mid → AreLinesWithin (length text) rest
      → end ≡ line_end (get_or rest 0 default) → IsWritten text mid (get_or rest 0 default) → all ≡ slice_range text at mid ++ flat_map header_text (headers_in text rest)
      → AreWritten text at lines ↔ AreWritten text mid rest → IsBehind text at end lines (take (length rest - 1) (drop 1 rest)) all
  behind_one end [] default some first within is_end written whole so_far = absurd (omega arith)
  behind_one end (line ∷ more) default some first within is_end written whole so_far =
      let kept : take (length (line ∷ more) - 1) (drop 1 (line ∷ more)) ≡ more = take_all (length (line ∷ more) - 1) more (omega arith) in
      subst (λ (ls : List LinePlaces). IsBehind text at end lines ls all) (sym kept)
      (subst (λ (e : ℕ). IsBehind text at e lines more all) (sym is_end) (behind_line line more first within written whole so_far))

  -- one line that does not stand so
  pub none_behind : (rest : List LinePlaces) (default : LinePlaces) → 1 ≤ length rest → (IsWritten text mid (get_or rest 0 default) → ⊥)
      → AreWritten text at lines ↔ AreWritten text mid rest → AreWritten text at lines → ⊥
  none_behind [] default some none so_far are = absurd (omega arith)
  none_behind (line ∷ more) default some none so_far are = none (so_far.0 are).0

-- What a message is once it was marked, and what marking leaves as it was.
use Rattle.sip_via.proofs.Common.{◌≡◌, ℕ, true, false, List, ◌∷◌, map, Option, Ok, Err, ap, arith, codes, flat_map, Quotes, Plain, trim, pieces_outside_behind, cut_outside, pieces_outside-cut, first_of, same_name, MessageText, Hop, BadVia, replaced}
use Rattle.sip_via.proofs.Common.{first_via_line, marked_line, with_via_line, values_in, is_via, or_empty, common_steps}
use Rattle.std.specs.Prelude.{IsOk}
use Rattle.sip_text.specs.Name.{values_of}
use Rattle.sip_via.specs.Received.{marked}
use Rattle.sip_via.specs.TopVia.{first_or_empty, top_value, via_lines}
use Rattle.sip_via.proofs.laws.Replaced.{values-replaced}

abbrev pub Cut : Type 0
Cut = List ℕ × Option (List ℕ)

abbrev pub cut_line : List ℕ → Cut
cut_line text = cut_outside Quotes 44 Plain text

-- ---- the values of a line

pub values-line : (text : List ℕ) → values_in text ≡ trim (cut_line text).0 ∷ map trim (pieces_outside_behind Quotes 44 (cut_line text).1)
values-line text = ap (λ (ps : List (List ℕ)). map trim ps) (pieces_outside-cut Quotes 44 text)

top-line : (lines : List (List ℕ)) → first_or_empty (flat_map values_in lines) ≡ trim (cut_line (or_empty (first_of lines))).0
top-line lines = grind (arith, values-line)

pub top-is : (m : MessageText) → top_value m ≡ trim (cut_line (first_via_line m)).0
top-is m = top-line (via_lines m)

-- ---- the message

-- a message that was marked
pub record WasMarked (m n : MessageText) (source : Hop) : Type 0 where
  pub reads : is_via (top_value m) ≡ true
  pub is : n ≡ with_via_line m (marked_line source (cut_line (first_via_line m)))

pub was-marked : (m n : MessageText) (source : Hop) → marked m source ≡ Ok n → WasMarked m n source
was-marked m n source e = grind (arith, top-is)

pub readable : (m : MessageText) (source : Hop) → is_via (top_value m) ≡ true → IsOk (marked m source)
readable m source h = grind (arith, top-is)

pub unreadable : (m : MessageText) (source : Hop) → is_via (top_value m) ≡ false → marked m source ≡ Err BadVia
unreadable m source h = grind (arith, top-is)

-- all else
pub record KeepsTheRest (m n : MessageText) : Type 0 where
  pub start : n.start ≡ m.start
  pub body : n.body ≡ m.body
  pub others : (name : List ℕ) → same_name (codes "via") name ≡ false → values_of name n.headers ≡ values_of name m.headers

pub keeps-the-rest : (m n : MessageText) (source : Hop) → marked m source ≡ Ok n → KeepsTheRest m n
keeps-the-rest m n source e = grind (arith, common_steps, was-marked m n source e, values-replaced)

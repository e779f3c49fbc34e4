-- Values that a header line may have.
use Rattle.sip_via.proofs.Common.{◌≡◌, ℕ, ◌-◌, Bool, true, List, ◌++◌, length, take, drop, Option, sym, ap, ◌∙◌, option_map, list_all, prefix_len, suffix_len, and_parts, take-append-drop, list_all-append, Plain, is_space, trim, trim_start, behind}
use Rattle.sip_via.proofs.Common.{cut_outside, cut_outside_joins, is_line, is_line_byte, is_trimmed, is_value, and_both, trim_trimmed, common_steps, arith}
use Rattle.sip_lex.specs.declared.sheltered.Shelter.{Shelter}
use Rattle.sip_via.proofs.laws.Replaced.{GoodValue}

pub all-parts : (p : ℕ → Bool) (n : ℕ) (bs : List ℕ) → list_all p bs ≡ true → (list_all p (take n bs) ≡ true) × (list_all p (drop n bs) ≡ true)
all-parts p n bs h = and_parts (list_all p (take n bs)) (list_all p (drop n bs)) (sym (list_all-append p (take n bs) (drop n bs)) ∙ ap (list_all p) (take-append-drop n bs) ∙ h)

pub all-trim : (p : ℕ → Bool) (bs : List ℕ) → list_all p bs ≡ true → list_all p (trim bs) ≡ true
all-trim p bs h =
    let s = trim_start bs in
    (all-parts p (length s - suffix_len is_space s) s (all-parts p (prefix_len is_space bs) bs h).1).0

-- a line of bytes, trimmed, is a value
pub trim-value : (bs : List ℕ) → is_line bs ≡ true → is_value (trim bs) ≡ true
trim-value bs h = and_both (is_line (trim bs)) (is_trimmed (trim bs)) (all-trim is_line_byte bs h) (trim_trimmed bs)

others-cut : (value : List ℕ) (mark : ℕ) (c : List ℕ × Option (List ℕ)) → value ≡ c.0 ++ behind mark c.1 → is_value value ≡ true → GoodValue (option_map trim c.1)
others-cut value mark c e h = grind (arith, common_steps, trim-value)

-- what stands behind a comma of a value, trimmed
pub others-good : (shelter : Shelter) (value : List ℕ) → is_value value ≡ true → GoodValue (option_map trim (cut_outside shelter 44 Plain value).1)
others-good shelter value h = others-cut value 44 (cut_outside shelter 44 Plain value) (cut_outside_joins shelter 44 Plain value) h

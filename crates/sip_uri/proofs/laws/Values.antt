-- The items of a value within a line are values.
use Rattle.sip_uri.proofs.Common.{◌≡◌, ℕ, suc, ◌+◌, ◌-◌, Bool, true, false, List, [], ◌∷◌, length, map, take, drop, refl, sym, ap, ◌∙◌, arith, Some, list_all, onto_first, prefix_len, and_from, and_parts, cond_both, take-append-drop, QuotesAndAngles}
use Rattle.sip_uri.proofs.Common.{ShelterState, Plain, is_space, trim, trim_start, pieces_from, pieces_outside, place_after, items_behind, is_line, is_value, common_steps}
use Rattle.std.specs.List.{suffix_len}
use Rattle.std.proofs.lemmas.List.Folds.{list_all-append}
use Rattle.sip_lex.proofs.laws.Trims.{trim_end-reverse}
use Rattle.sip_lex.specs.Values.{begins_with_space, is_line_byte, is_trimmed}

-- ---- space at the ends

no_space_left : (bs : List ℕ) → begins_with_space (trim_start bs) ≡ false
no_space_left [] = refl
no_space_left (b ∷ bs) =
    cond_both (is_space b) (1 + prefix_len is_space bs) 0 (λ n. begins_with_space (drop n (b ∷ bs)) ≡ false)
    (λ e. ap (λ n. begins_with_space (drop n (b ∷ bs))) (let k : 1 + prefix_len is_space bs ≡ suc (prefix_len is_space bs) = omega arith in k) ∙ no_space_left bs)
    (λ e. e)

front_as_before : (n : ℕ) (bs : List ℕ) → begins_with_space bs ≡ false → begins_with_space (take n bs) ≡ false
front_as_before n bs h = grind arith

trim_trimmed : (bs : List ℕ) → is_trimmed (trim bs) ≡ true
trim_trimmed bs = grind (arith, common_steps, front_as_before, no_space_left, trim_end-reverse)

-- ---- parts of a line

all_parts : (p : ℕ → Bool) (n : ℕ) (bs : List ℕ) → list_all p bs ≡ true → (list_all p (take n bs) ≡ true) × (list_all p (drop n bs) ≡ true)
all_parts p n bs h = and_parts (list_all p (take n bs)) (list_all p (drop n bs)) (sym (list_all-append p (take n bs) (drop n bs)) ∙ ap (list_all p) (take-append-drop n bs) ∙ h)

trim_line : (bs : List ℕ) → is_line bs ≡ true → is_line (trim bs) ≡ true
trim_line bs h =
    let s = trim_start bs in
    (all_parts is_line_byte (length s - suffix_len is_space s) s (all_parts is_line_byte (prefix_len is_space bs) bs h).1).0

pub onto_line : (b : ℕ) (parts : List (List ℕ)) → is_line_byte b ≡ true → list_all is_line parts ≡ true → list_all is_line (onto_first b parts) ≡ true
onto_line b parts h k = grind arith

pieces_line : (place : ShelterState) (bs : List ℕ) → is_line bs ≡ true → list_all is_line (pieces_from QuotesAndAngles 44 place bs) ≡ true
pieces_line place [] h = refl
pieces_line place (b ∷ bs) h =
    let each = and_parts (is_line_byte b) (is_line bs) h in
    let later = place_after QuotesAndAngles place b in
    grind (arith, onto_line b (pieces_from QuotesAndAngles 44 later bs) each.0 (pieces_line later bs each.1))

trimmed_values : (ps : List (List ℕ)) → list_all is_line ps ≡ true → list_all is_value (map trim ps) ≡ true
trimmed_values [] h = refl
trimmed_values (p ∷ ps) h =
    let each = and_parts (is_line p) (list_all is_line ps) h in
    and_from (is_value (trim p)) (list_all is_value (map trim ps)) (and_from (is_line (trim p)) (is_trimmed (trim p)) (trim_line p each.0) (trim_trimmed p)) (trimmed_values ps each.1)

pub items_values : (value : List ℕ) → is_line value ≡ true → list_all is_value (items_behind (Some value)) ≡ true
items_values value h = trimmed_values (pieces_outside QuotesAndAngles 44 value) (pieces_line Plain value h)

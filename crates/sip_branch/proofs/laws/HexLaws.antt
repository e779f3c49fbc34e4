-- Bytes in hexadecimal digits.
use Rattle.sip_branch.proofs.Common.{◌≡◌, ℕ, suc, zero, ◌+◌, ◌*◌, ◌<◌, ◌/◌, ◌%◌, List, [], ◌∷◌, ◌++◌, length, get_or, take, Option, refl, sym, ap, ◌∙◌, arith, hex_digit, hex_pair, hex_text}
use Rattle.std.specs.Prelude.{IfNone}
use Rattle.std.proofs.lemmas.List.{take_more, flat_map_more}

pub hex_text_length : (key : List ℕ) → length (hex_text key) ≡ 2 * length key
hex_text_length [] = refl
hex_text_length (b ∷ key) = let h = hex_text_length key in omega (arith, h)

-- the digits of one byte
pub pair_at : (key : List ℕ) (i : ℕ) → i < length key → get_or (hex_text key) (2 * i) 0 ∷ get_or (hex_text key) (2 * i + 1) 0 ∷ [] ≡ hex_pair (get_or key i 0)
pair_at [] i lt = absurd (omega arith)
pair_at (b ∷ key) zero lt = refl
pair_at (b ∷ key) (suc i) lt =
    let first : 2 * suc i ≡ suc (suc (2 * i)) = omega arith in
    let second : 2 * suc i + 1 ≡ suc (suc (2 * i + 1)) = omega arith in
    ap (λ n. get_or (hex_text (b ∷ key)) n 0 ∷ get_or (hex_text (b ∷ key)) (2 * suc i + 1) 0 ∷ []) first
    ∙ ap (λ n. get_or (hex_text (b ∷ key)) (suc (suc (2 * i))) 0 ∷ get_or (hex_text (b ∷ key)) n 0 ∷ []) second
    ∙ pair_at key i (omega arith)

-- a step of writing
pub hex_text_more : (bytes : List ℕ) (i : ℕ) → i < length bytes → hex_text (take (i + 1) bytes) ≡ hex_text (take i bytes) ++ hex_pair (get_or bytes i 0)
hex_text_more bytes i lt = ap hex_text (take_more bytes i 0 lt) ∙ sym (flat_map_more hex_pair [] (take i bytes) (get_or bytes i 0))

-- ---- a text spells one list of bytes

abbrev pub head_of : List ℕ → ℕ
head_of [] = 0
head_of (b ∷ bs) = b

abbrev tail_of : List ℕ → List ℕ
tail_of [] = []
tail_of (b ∷ bs) = bs

byte_one : (a b : ℕ) → hex_digit (a / 16) ≡ hex_digit (b / 16) → hex_digit (a % 16) ≡ hex_digit (b % 16) → a ≡ b
byte_one a b upper lower = grind arith

pub hex_text_one : (xs ys : List ℕ) → hex_text xs ≡ hex_text ys → xs ≡ ys
hex_text_one [] [] e = refl
hex_text_one [] (y ∷ ys) e = let k = ap length e in absurd (omega (arith, k))
hex_text_one (x ∷ xs) [] e = let k = ap length e in absurd (omega (arith, k))
hex_text_one (x ∷ xs) (y ∷ ys) e =
    let upper : hex_digit (x / 16) ≡ hex_digit (y / 16) = ap head_of e in
    let lower : hex_digit (x % 16) ≡ hex_digit (y % 16) = ap (λ (t : List ℕ). head_of (tail_of t)) e in
    let rest : hex_text xs ≡ hex_text ys = ap (λ (t : List ℕ). tail_of (tail_of t)) e in
    ap (λ n. n ∷ xs) (byte_one x y upper lower) ∙ ap (λ (t : List ℕ). y ∷ t) (hex_text_one xs ys rest)

-- ---- a step of reading

pub none_so : {X : Type 0} (o : Option X) (P : Type 0) → P → IfNone o P
none_so o P p = grind arith

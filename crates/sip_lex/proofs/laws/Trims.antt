-- Texts without space at their ends.
use Rattle.sip_lex.proofs.Common.{◌≡◌, ℕ, zero, suc, ◌+◌, ◌-◌, ◌<◌, Bool, true, false, ltb, List, [], ◌∷◌, length, take, drop, get_or, ap, ◌∙◌, arith, sym, refl, ◌++◌, list_all, suffix_len, and_parts, cases_Bool, cond-false, cond-true, take_all}
use Rattle.sip_lex.proofs.Common.{take_at, take-append-drop, length-drop, is_space, trim_start, Lacks, common_steps}
use Rattle.std.proofs.Common.{reverse}
use Rattle.std.specs.Prelude.{◌&&◌}
use Rattle.std.specs.List.{prefix_len}
use Rattle.std.proofs.lemmas.List.Sums.{suffix_len_is}
use Rattle.std.proofs.lemmas.List.{length-reverse, reverse-append, reverse-reverse}
use Rattle.sip_lex.specs.Bytes.{is_token, is_token_byte, trim, trim_end}
use Rattle.sip_lex.proofs.laws.Cuts.{Lacks-pass}

-- a byte of a token is no space
pub token_byte-space : (b : ℕ) → is_token_byte b ≡ true → is_space b ≡ false
token_byte-space b h = grind arith

-- the bytes of a token
pub token_bytes : (bs : List ℕ) → is_token bs ≡ true → list_all is_token_byte bs ≡ true
token_bytes bs h = (and_parts (ltb 0 (length bs)) (list_all is_token_byte bs) h).1

-- a token lacks each byte that is none of its bytes
pub token_lacks : (mark : ℕ) (bs : List ℕ) → is_token_byte mark ≡ false → is_token bs ≡ true → Lacks mark bs
token_lacks mark bs fails h = Lacks-pass is_token_byte mark bs fails (token_bytes bs h)

passes_at : (p : ℕ → Bool) (bs : List ℕ) (i : ℕ) → list_all p bs ≡ true → i < length bs → p (get_or bs i 0) ≡ true
passes_at p [] i h lt = absurd (omega arith)
passes_at p (b ∷ bs) zero h lt = (and_parts (p b) (list_all p bs) h).0
passes_at p (b ∷ bs) (suc i) h lt = passes_at p bs i (and_parts (p b) (list_all p bs) h).1 (omega arith)

-- a token has no space at its end
pub trim_end-token : (bs : List ℕ) → is_token bs ≡ true → trim_end bs ≡ bs
trim_end-token bs h =
    let n = length bs in
    let none : suffix_len is_space bs ≡ n - n = suffix_len_is is_space bs n 0 (omega arith) (λ k low high. absurd (omega arith)) (λ some. token_byte-space (get_or bs (n - 1) 0) (passes_at is_token_byte bs (n - 1) (token_bytes bs h) (omega arith))) in
    ap (λ k. take k bs) (let e : n - suffix_len is_space bs ≡ n = omega arith in e) ∙ take_all n bs (omega arith)

-- a space at the front makes no difference
pub trim-space : (bs : List ℕ) → trim (32 ∷ bs) ≡ trim bs
trim-space bs = ap trim_end (ap (λ k. drop k (32 ∷ bs)) (let e : 1 + prefix_len is_space bs ≡ suc (prefix_len is_space bs) = omega arith in e))

-- ---- a text is its trimmed text with space at its ends

spaces_before : (bs : List ℕ) → list_all is_space (take (prefix_len is_space bs) bs) ≡ true
spaces_before [] = refl
spaces_before (b ∷ bs) =
    let n = prefix_len is_space bs in
    let k : suc n ≡ 1 + n = omega arith in
    grind (arith, common_steps, cases_Bool, cond-true, cond-false, spaces_before bs)

-- what trimming takes from the front
pub record TrimsStart (bs trimmed : List ℕ) : Type 0 where
  pub gap : List ℕ
  pub spaces : list_all is_space gap ≡ true
  pub whole : bs ≡ gap ++ trimmed

pub trim_start-whole : (bs : List ℕ) → TrimsStart bs (trim_start bs)
trim_start-whole bs = record { gap = take (prefix_len is_space bs) bs; spaces = spaces_before bs; whole = sym (take-append-drop (prefix_len is_space bs) bs) }

-- space at the front is taken away
pub trim_start-spaces : (gap bs : List ℕ) → list_all is_space gap ≡ true → trim_start (gap ++ bs) ≡ trim_start bs
trim_start-spaces [] bs h = refl
trim_start-spaces (b ∷ gap) bs h =
    let both = and_parts (is_space b) (list_all is_space gap) h in
    let n = prefix_len is_space (gap ++ bs) in
    let k : 1 + n ≡ suc n = omega arith in
    ap (λ m. drop m (b ∷ (gap ++ bs))) (cond-true (is_space b) (1 + n) 0 both.0 ∙ k) ∙ trim_start-spaces gap bs both.1

-- nothing else is
pub trim_start-none : (b : ℕ) (bs : List ℕ) → is_space b ≡ false → trim_start (b ∷ bs) ≡ b ∷ bs
trim_start-none b bs other = ap (λ m. drop m (b ∷ bs)) (cond-false (is_space b) (1 + prefix_len is_space bs) 0 other)

-- ---- the same at the end, by reversing

pub trim_end-reverse : (bs : List ℕ) → trim_end bs ≡ reverse (trim_start (reverse bs))
trim_end-reverse bs =
    let rs = reverse bs in
    let k = prefix_len is_space rs in
    grind (arith, common_steps, reverse-reverse bs, take-append-drop k rs, reverse-append (take k rs) (drop k rs), length-reverse, length-drop, take_at)

all-append : (p : ℕ → Bool) (xs ys : List ℕ) → list_all p xs ≡ true → list_all p ys ≡ true → list_all p (xs ++ ys) ≡ true
all-append p [] ys h k = k
all-append p (x ∷ xs) ys h k = grind (arith, common_steps)

all-reverse : (p : ℕ → Bool) (bs : List ℕ) → list_all p bs ≡ true → list_all p (reverse bs) ≡ true
all-reverse p [] h = refl
all-reverse p (b ∷ bs) h =
    let both = and_parts (p b) (list_all p bs) h in
    ap (list_all p) (reverse-append (b ∷ []) bs) ∙ all-append p (reverse bs) (b ∷ []) (all-reverse p bs both.1) (ap (λ t. t && true) both.0)

pub record TrimsEnd (bs trimmed : List ℕ) : Type 0 where
  pub gap : List ℕ
  pub spaces : list_all is_space gap ≡ true
  pub whole : bs ≡ trimmed ++ gap

pub trim_end-whole : (bs : List ℕ) → TrimsEnd bs (trim_end bs)
trim_end-whole bs = grind (arith, common_steps, trim_start-whole (reverse bs), reverse-reverse bs, trim_end-reverse bs, reverse-append, all-reverse)

trim_start-passes : (p : ℕ → Bool) → ((b : ℕ) → p b ≡ true → is_space b ≡ false) → (bs : List ℕ) → list_all p bs ≡ true → trim_start bs ≡ bs
trim_start-passes p other bs h = grind arith

-- space behind bytes that are none is taken away, and nothing else
pub trim_end-passes : (p : ℕ → Bool) → ((b : ℕ) → p b ≡ true → is_space b ≡ false) → (bs gap : List ℕ) → list_all p bs ≡ true → list_all is_space gap ≡ true → trim_end (bs ++ gap) ≡ bs
trim_end-passes p other bs gap h spaces = grind (arith, common_steps, trim_end-reverse (bs ++ gap), reverse-append bs gap, trim_start-spaces (reverse gap) (reverse bs) (all-reverse is_space gap spaces), trim_start-passes p other (reverse bs) (all-reverse p bs h), reverse-reverse bs, all-reverse)

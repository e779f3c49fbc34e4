-- What is spelled in a field is read, and what is read is spelled so.
use Rattle.fork_rank.proofs.TextCommon.{◌≡◌, ℕ, ◌<◌, ◌≤◌, Bool, true, false, cond, List, ◌∷◌, ◌++◌, Option, Some, None, refl, ap, subst, ◌∙◌, arith, bytes_eq, codes, option_and_then, option_map, decimal, same_Some, bytes_eq-Decides, cut, is, Lacks}
use Rattle.fork_rank.proofs.TextCommon.{plain_number_within, cut_again, cut_joins, number_read, number_spelled, decimal_lacks, common_steps}
use Rattle.std.proofs.Common.{◌^◌}
use Rattle.std.proofs.lemmas.Fmt.{decimal_nonempty}
use Rattle.sip_lex.specs.Cut.{behind}
use Rattle.fork_rank.specs.Field.{before_cut, before, numbered_text, number_before, number_from}

module _ {X : Type 0} where
  -- what was read was made of something
  pub found_map : {Y : Type 0} (f : X → Y) (o : Option X) (y : Y) (P : Y → Type 0) → ((x : X) → o ≡ Some x → P (f x)) → option_map f o ≡ Some y → P y
  found_map f None y P k e = absurd cc
  found_map f (Some x) y P k e = subst P (same_Some _ _ e) (k x refl)

  pub found_then : {Y : Type 0} (f : X → Option Y) (o : Option X) (y : Y) (P : Type 0) → ((x : X) → o ≡ Some x → f x ≡ Some y → P) → option_and_then f o ≡ Some y → P
  found_then f None y P k e = absurd cc
  found_then f (Some x) y P k e = k x refl e

  -- one of two, by a test
  pub found_one : (b : Bool) (x y : X) (r : Option X) (P : X → Type 0) → (b ≡ true → P x) → (r ≡ Some y → P y) → cond b (Some x) r ≡ Some y → P y
  found_one true x y r P same others e = subst P (same_Some _ _ e) (same refl)
  found_one false x y r P same others e = others e

  -- what stands before a space
  pub before_read : (read : List ℕ → Option X) (front rest : List ℕ) (x : X) → Lacks 32 front → read front ≡ Some x → before read (front ++ 32 ∷ rest) ≡ Some (x, rest)
  before_read read front rest x lacks e =
      ap (before_cut read) (cut_again 32 front (Some rest) lacks) ∙ ap (option_map (λ y. (y, rest))) e

  pub before_found : (read : List ℕ → Option X) (text : List ℕ) (p : X × List ℕ) → before read text ≡ Some p → (front : List ℕ) × (text ≡ front ++ 32 ∷ p.1) × (read front ≡ Some p.0)
  before_found read text p e = parts (cut (is 32) text) (cut_joins 32 text) e
    where
      parts : (c : List ℕ × Option (List ℕ)) → text ≡ c.0 ++ behind 32 c.1 → before_cut read c ≡ Some p → (front : List ℕ) × (text ≡ front ++ 32 ∷ p.1) × (read front ≡ Some p.0)
      parts (front, None) whole e = absurd cc
      parts (front, Some rest) whole e =
          let P : X × List ℕ → Type 0 = λ q. (front : List ℕ) × (text ≡ front ++ 32 ∷ q.1) × (read front ≡ Some q.0) in
          found_map (λ x. (x, rest)) (read front) p P (λ x is. (front, whole, is)) e

-- a number before a space
pub number_before_read : (most n : ℕ) (text : List ℕ) → n ≤ most → n < 2 ^ 64 → number_before most (numbered_text n text) ≡ Some (n, text)
number_before_read most n text within small =
    before_read (plain_number_within most) (decimal n) text n (decimal_lacks 32 n refl small) (number_read most n within small)

pub number_before_found : (most : ℕ) (text : List ℕ) (p : ℕ × List ℕ) → most < 2 ^ 64 → number_before most text ≡ Some p → (text ≡ numbered_text p.0 p.1) × (p.0 ≤ most)
number_before_found most text p small e =
    let f = before_found (plain_number_within most) text p e in
    grind (arith, number_spelled most f.0 p.0 small f.2)

-- a number of a range
pub number_from_read : (least most n : ℕ) → least ≤ n → n ≤ most → n < 2 ^ 64 → number_from least most (decimal n) ≡ Some n
number_from_read least most n low high small = grind (arith, number_read)

pub number_from_found : (least most : ℕ) (digits : List ℕ) (n : ℕ) → most < 2 ^ 64 → number_from least most digits ≡ Some n → (digits ≡ decimal n) × (least ≤ n) × (n ≤ most)
number_from_found least most digits n small e = grind (arith, number_spelled)

pub no_dash : (n : ℕ) (back : List ℕ) → n < 2 ^ 64 → bytes_eq (decimal n ++ back) (codes "-") ≡ false
no_dash n back small = grind (arith, common_steps, decimal_lacks 45 n refl small, decimal_nonempty n small, bytes_eq-Decides)

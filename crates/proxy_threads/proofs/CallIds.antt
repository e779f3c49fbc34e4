-- The first line that is a Call-ID is found from one end of a line to the next.
use Rattle.std.proofs.Common.{◌≡◌, ℕ, Bool, true, false, cond, List, [], ◌∷◌, Option, Some, None, refl, ap, sym, ◌∙◌}
use Rattle.std.specs.Prelude.{◌==◌}
use Rattle.sip_lex.specs.Cut.{cut, is}
use Rattle.proxy_threads.specs.CallId.{found_in, found_or, value_at, first_word}

abbrev pub in_line : Option (List ℕ) → Option (List ℕ)
in_line None = None
in_line (Some line) = found_in true line

pub next_line : (text : List ℕ) → found_in false text ≡ in_line (cut (is 10) text).1
unfolding found_in
next_line [] = refl
next_line (b ∷ bs) = go (b == 10) (next_line bs)
  where
    go : (t : Bool) → found_in false bs ≡ in_line (cut (is 10) bs).1 → found_in t bs ≡ in_line (cond {A = List ℕ × Option (List ℕ)} t ([], Some bs) (b ∷ (cut (is 10) bs).0, (cut (is 10) bs).1)).1
    go true rest = refl
    go false rest = rest

pub is_other : (line : List ℕ) → value_at line ≡ None → found_in true line ≡ found_in false line
unfolding found_in
is_other [] e = refl
is_other (b ∷ bs) e = ap (λ v. found_or v (found_in (b == 10) bs)) e

pub is_found : (line value : List ℕ) → value_at line ≡ Some value → found_in true line ≡ Some (first_word value)
unfolding found_in
is_found [] value e = absurd cc
is_found (b ∷ bs) value e = ap (λ v. found_or v (found_in (b == 10) bs)) e

-- where the search stands before a line, or behind the last one
pub goes_on : (rest text : List ℕ) → found_in false rest ≡ found_in false text → (parts : List ℕ × Option (List ℕ)) → parts ≡ cut (is 10) rest → found_in false text ≡ in_line parts.1
goes_on rest text same parts is = sym same ∙ next_line rest ∙ ap (λ (p : List ℕ × Option (List ℕ)). in_line p.1) (sym is)

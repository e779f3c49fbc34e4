-- Two texts that stand one behind the other.
use Rattle.sip_uri.proofs.Common.{◌≡◌, ℕ, List, ◌++◌, length, take, drop, sym, ap, ◌∙◌}
use Rattle.std.proofs.Common.{take_at, drop_at}

pub two_texts : (a b all : List ℕ) (n : ℕ) (both : List ℕ × List ℕ) → n ≡ length a → all ≡ a ++ b → both ≡ (take n all, drop n all) → both ≡ (a, b)
two_texts a b all n both len joins is =
    let front : take n all ≡ a = ap (take n) joins ∙ take_at a b n (sym len) in
    let back : drop n all ≡ b = ap (drop n) joins ∙ drop_at a b n (sym len) in
    is ∙ ap (λ (x : List ℕ). (x, drop n all)) front ∙ ap (λ (y : List ℕ). (a, y)) back

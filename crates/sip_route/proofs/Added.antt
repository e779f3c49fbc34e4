-- A text that grew by pieces.
use Rattle.sip_route.proofs.Common.{◌≡◌, ℕ, List, [], ◌++◌, sym, ap, ◌∙◌, append_assoc}
use Rattle.std.proofs.lemmas.List.{append-nil}

pub three : (m a b d : List ℕ) → ((m ++ a) ++ b) ++ d ≡ m ++ (a ++ (b ++ (d ++ [])))
three m a b d = append_assoc (m ++ a) b d ∙ append_assoc m a (b ++ d) ∙ ap (λ (x : List ℕ). m ++ (a ++ (b ++ x))) (sym (append-nil d))

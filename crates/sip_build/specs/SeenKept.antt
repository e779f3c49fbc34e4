-- Texts of contacts in memory, as lists.
use Rattle.std.specs.Prelude.{ℕ, List, map, Option, Some, None}
use Rattle.std.specs.Borrow.{Bor}

abbrev pub texts : List (Bor (List ℕ)) → List (List ℕ)
texts kept = map (λ text. text.now) kept

abbrev pub seen_kept : Option (Bor (List (Bor (List ℕ)))) → Option (List (List ℕ))
seen_kept None = None
seen_kept (Some kept) = Some (texts kept.now)

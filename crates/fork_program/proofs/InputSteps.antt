-- Reads one after another, up to the end or the limit.
use Rattle.fork_program.proofs.Common.{◌≡◌, ℕ, ◌+◌, ◌≤◌, Bool, List, [], ◌∷◌, ◌++◌, length, take, Option, refl, ap, arith, append_assoc, append-nil, IfSome, Consumes, common_steps}
use Rattle.std.specs.Io.KnownBytes.{IsAtEnd}
use Rattle.std.proofs.lemmas.List.{take_all, length-append}
use Rattle.fork_program.specs.inner.Input.{ReadsMore}

consumes_both : (old mid new : Option (List ℕ)) (xs ys : List ℕ) → Consumes old mid xs → Consumes mid new ys → Consumes old new (xs ++ ys)
consumes_both old mid new xs ys a b = grind (arith, common_steps, append_assoc)

pub consumed_more : (first old new : Option (List ℕ)) (room : ℕ) (before after : List ℕ) (ended : Bool) → Consumes first old before → ReadsMore old new room before after ended → Consumes first new after
consumed_more first old new room before after ended so_far more = grind (arith, common_steps, consumes_both)

-- the whole, where the end was met within the limit, or the limit was
pub whole_at_end : (first new : Option (List ℕ)) (text : List ℕ) (most : ℕ) → Consumes first new text → IsAtEnd new → length text ≤ most → IfSome first (λ bytes. text ≡ take most bytes)
whole_at_end first new text most consumed end few = grind (arith, common_steps, append-nil, take_all)

take_front : (text rest : List ℕ) → take (length text) (text ++ rest) ≡ text
take_front [] rest = refl
take_front (b ∷ text) rest = ap (λ bs. b ∷ bs) (take_front text rest)

pub whole_at_most : (first new : Option (List ℕ)) (text : List ℕ) (most : ℕ) → Consumes first new text → length text ≡ most → IfSome first (λ bytes. text ≡ take most bytes)
whole_at_most first new text most consumed long = grind (arith, common_steps, take_front)

pub length_more : (old new : Option (List ℕ)) (room : ℕ) (before after : List ℕ) (ended : Bool) → ReadsMore old new room before after ended → length after ≤ length before + room
length_more old new room before after ended more = grind (arith, common_steps, length-append)

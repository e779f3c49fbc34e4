use Rattle.std.proofs.Common.{◌≡◌, ◌↔◌, ℕ, ◌==◌, true, false, List, ◌∷◌, ap, arith}
use Rattle.std.proofs.lemmas.Bool.Decides.{nat_tests}
use Rattle.fork_model.specs.Event.{Event}
use Rattle.fork_model.specs.Log.{Posted}
use Rattle.fork_engine.specs.Interleaving.{part_of}

-- an event of the worker that is the script's next one
pub part_step : (tag : ℕ) (post : Posted) (history : List Posted) (event : Event) (events : List Event) → post.tag ≡ tag → post.event ≡ event
    → (part_of tag history ≡ events) ↔ (part_of tag (post ∷ history) ≡ event ∷ events)
part_step tag post history event events is same =
    let b : (post.tag == tag) ≡ true = grind (arith, nat_tests) in
    rw (b, same) ((λ p. ap (λ l. event ∷ l) p), (λ q. cc))

pub part_other : (tag : ℕ) (post : Posted) (history : List Posted) (events : List Event) → (post.tag ≡ tag → ⊥)
    → (part_of tag history ≡ events) ↔ (part_of tag (post ∷ history) ≡ events)
part_other tag post history events isnt =
    let b : (post.tag == tag) ≡ false = grind (arith, nat_tests) in
    rw b ((λ p. p), (λ q. q))

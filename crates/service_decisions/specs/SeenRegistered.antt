-- What becomes of a REGISTER, in memory.
use Rattle.std.specs.Prelude.{◌≡◌, ℕ, List, Option, None, Result, Ok, Err, Vec}
use Rattle.std.specs.Option.{option_map}
use Rattle.authentication.specs.Answer.{Answer}
use Rattle.bindings.specs.Bindings.{Binding}
use Rattle.registrar.specs.Asking.{Registration}
use Rattle.service_decisions.specs.declared.registering.Registered.{Registered}
use Rattle.service_decisions.specs.declared.registering.Registered.TheVariants as registered
use Rattle.service_decisions.specs.Registered as spec
use Rattle.service_decisions.specs.Registered.{IsMadeOf}
use Rattle.service_decisions.specs.Serving.{Serving}

module _ {A : Type 0} where
  abbrev pub seen_registered : Registered A → spec.Registered
  seen_registered (registered.Answered answer noted) = spec.Answered answer (option_map (λ (name : Vec ℕ A). name.items) noted)
  seen_registered (registered.Changes change answer) = spec.Changes change.user change.bindings answer
  seen_registered registered.Waits = spec.Waits

-- where memory is refused there are no new ones
abbrev pub IsApart : {E : Type 0} → Serving → Registration → (held : List Binding) → (new : Option (List Binding)) → Result Answer E → Type 0
IsApart serving r held new (Ok answer) = IsMadeOf serving r held new answer
IsApart serving r held new (Err refused) = new ≡ None

-- What a request makes of bindings, in memory.
use Rattle.registrar.specs.declared.outcome.RegisterOutcome.{RegisterOutcome}
use Rattle.registrar.specs.declared.outcome.RegisterOutcome.TheVariants as outcome
use Rattle.registrar.specs.Outcome as spec

module _ {A : Type 0} where
  abbrev pub seen_outcome : RegisterOutcome A → spec.Outcome
  seen_outcome outcome.Repeated = spec.Repeated
  seen_outcome (outcome.Refused answer) = spec.Refused answer
  seen_outcome (outcome.Changes bindings) = spec.Changes bindings

-- Decisions in memory.
use Rattle.std.specs.Prelude.{Some}
use Rattle.fork_call.specs.Opening.{with_token}
use Rattle.proxy_config.specs.Setup.{Setup}
use Rattle.proxy_dispatch.specs.declared.admission.Decision.{Decision}
use Rattle.proxy_dispatch.specs.declared.admission.Decision.TheVariants as decision
use Rattle.proxy_dispatch.specs.Admitting as spec

abbrev pub seen_decision : {A : Type 0} → Setup → Decision A → spec.Decision
seen_decision setup decision.Opens = spec.Opens setup
seen_decision setup (decision.OpensWith token) = spec.Opens (with_token (Some token) setup)
seen_decision setup (decision.OpensBy moment) = spec.Opens moment
seen_decision setup (decision.Answers answer) = spec.Answers answer
seen_decision setup decision.Leaves = spec.Leaves

use Rattle.std.proofs.Common.{◌≡◌, ℕ}
use Rattle.control_socket.specs.declared.command.ControlCommand.TheVariants as command
use Rattle.control_socket.proofs.command.read_numbered.Goals as goal

pub returns-in-None-clause-stop : goal.returns-in-None-clause-stop
returns-in-None-clause-stop c = λ seconds. ((λ e. absurd (let wrong : ⊥ = cc in wrong)), (λ is. absurd (c.in_default.ensures.none seconds is)))

pub returns-in-None-clause-calls : goal.returns-in-None-clause-calls
returns-in-None-clause-calls c = λ from. ((λ e. absurd (let wrong : ⊥ = cc in wrong)), (λ is. absurd (c.in_default-number_behind.ensures.none from is)))

pub returns-in-None-clause-call : goal.returns-in-None-clause-call
returns-in-None-clause-call c = λ number. ((λ e. absurd (let wrong : ⊥ = cc in wrong)), (λ is. absurd (c.in-None.ensures.none number is)))

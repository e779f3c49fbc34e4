use Rattle.std.proofs.Common.{◌≡◌}
use Rattle.serve_command.proofs.jobs.JobSender.finish.Given as goal

abbrev pub invariant-loop : goal.invariant-loop
invariant-loop g l = (l.self.given ≡ l.fn.self.given) × (l.job ≡ l.fn.last)

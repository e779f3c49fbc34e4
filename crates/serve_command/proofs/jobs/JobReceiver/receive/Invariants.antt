use Rattle.std.proofs.Common.{◌≡◌}
use Rattle.serve_command.proofs.jobs.JobReceiver.receive.Given as goal

abbrev pub invariant-loop : goal.invariant-loop
invariant-loop g l = l.self-inside.inbox.received ≡ l.fn.self.received

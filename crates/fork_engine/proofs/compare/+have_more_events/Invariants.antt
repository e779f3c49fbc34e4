use Rattle.std.proofs.Common.{length}
use Rattle.fork_engine.proofs.compare.+have_more_events.Given as goal

abbrev pub decreases-have_more_events : goal.decreases-have_more_events
decreases-have_more_events g l = length l.scripts.now

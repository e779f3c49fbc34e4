use Rattle.call_journal.proofs.Failing.{listed_right}
use Rattle.call_journal.proofs.law.failed_calls_are_listed_right.Goals as goal

pub returns : goal.returns
returns c = listed_right c.listings_of_forks_are_right.ensures c.targets_are_bounded.ensures.by_event c.targets_are_bounded.ensures.at_first

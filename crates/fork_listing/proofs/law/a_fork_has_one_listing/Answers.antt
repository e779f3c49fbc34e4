use Rattle.fork_listing.proofs.laws.OneListing.{one_ranking, one_listing}
use Rattle.fork_listing.proofs.law.a_fork_has_one_listing.Goals as goal

pub returns-clause-ranking : goal.returns-clause-ranking
returns-clause-ranking c = one_ranking

pub returns-clause-listing : goal.returns-clause-listing
returns-clause-listing c = one_listing

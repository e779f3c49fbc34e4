use Rattle.fork_listing.proofs.ListedForks.{listings_right}
use Rattle.fork_listing.proofs.law.listings_of_forks_are_right.Goals as goal

pub returns : goal.returns
returns c = listings_right

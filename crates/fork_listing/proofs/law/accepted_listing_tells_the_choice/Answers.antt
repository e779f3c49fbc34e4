use Rattle.fork_listing.proofs.Meanings.{right_tells}
use Rattle.fork_listing.proofs.law.accepted_listing_tells_the_choice.Goals as goal

pub returns-clause-right : goal.returns-clause-right
returns-clause-right c = right_tells

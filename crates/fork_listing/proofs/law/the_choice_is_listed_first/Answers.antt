use Rattle.fork_listing.proofs.FirstLines.{the_choice_is_first}
use Rattle.fork_listing.proofs.law.the_choice_is_listed_first.Goals as goal

pub returns : goal.returns
returns c = the_choice_is_first

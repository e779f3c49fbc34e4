use Rattle.fork_listing.proofs.AcceptedTexts.{accepted_right, right_accepted}
use Rattle.fork_listing.proofs.law.right_texts_are_accepted.Goals as goal

pub returns-clause-accepted : goal.returns-clause-accepted
returns-clause-accepted c = accepted_right

pub returns-clause-right : goal.returns-clause-right
returns-clause-right c = right_accepted

use Rattle.fork_program.proofs.RightListings.{replays_end_right, listings_are_short, answered_yes}
use Rattle.fork_program.proofs.law.replays_are_answered_yes.Goals as goal

pub returns-clause-right : goal.returns-clause-right
returns-clause-right c = replays_end_right c.the_choice_is_listed_first.ensures c.accepted_listing_tells_the_choice.ensures.right c.order_is_strict_and_total.ensures.irreflexive c.listings_of_forks_are_right.ensures

pub returns-clause-short : goal.returns-clause-short
returns-clause-short c = listings_are_short c.accepted_listing_tells_the_choice.ensures.right c.order_is_strict_and_total.ensures.irreflexive

pub returns-clause-answered : goal.returns-clause-answered
returns-clause-answered c = answered_yes c.right_texts_are_accepted.ensures.right

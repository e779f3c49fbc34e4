use Rattle.fork_model.proofs.Common.{refl}
use Rattle.fork_model.specs.Rank.{rank_of}
use Rattle.fork_model.specs.Worked.{preferred_status_first, operators_preferred_first, earliest_of_equals, unavailable_last, unavailable_alone, asked_twice}
use Rattle.fork_model.proofs.Scripts.{goes}
use Rattle.fork_model.proofs.worked.worked_choices.Goals as goal

pub returns-clause-preferred_status_first : goal.returns-clause-preferred_status_first
unfolding rank_of
returns-clause-preferred_status_first c = goes preferred_status_first refl refl

pub returns-clause-operators_preferred_first : goal.returns-clause-operators_preferred_first
unfolding rank_of
returns-clause-operators_preferred_first c = goes operators_preferred_first refl refl

pub returns-clause-earliest_of_equals : goal.returns-clause-earliest_of_equals
unfolding rank_of
returns-clause-earliest_of_equals c = goes earliest_of_equals refl refl

pub returns-clause-unavailable_last : goal.returns-clause-unavailable_last
unfolding rank_of
returns-clause-unavailable_last c = goes unavailable_last refl refl

pub returns-clause-unavailable_alone : goal.returns-clause-unavailable_alone
unfolding rank_of
returns-clause-unavailable_alone c = goes unavailable_alone refl refl

pub returns-clause-server_error : goal.returns-clause-server_error
returns-clause-server_error c = refl

pub returns-clause-asked_twice : goal.returns-clause-asked_twice
unfolding rank_of
returns-clause-asked_twice c = goes asked_twice refl refl

pub returns-clause-challenges_added : goal.returns-clause-challenges_added
returns-clause-challenges_added c = refl

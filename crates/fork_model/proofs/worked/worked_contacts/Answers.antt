use Rattle.fork_model.proofs.Common.{refl}
use Rattle.fork_model.specs.Rank.{rank_of}
use Rattle.fork_model.specs.Worked.{contacts_are_tried, contact_left_to_caller, contact_known_already, redirection_without_contact, no_contact_at_depth_zero, one_step_at_depth_one}
use Rattle.fork_model.proofs.Scripts.{goes}
use Rattle.fork_model.proofs.worked.worked_contacts.Goals as goal

pub returns-clause-contacts_are_tried : goal.returns-clause-contacts_are_tried
unfolding rank_of
returns-clause-contacts_are_tried c = goes contacts_are_tried refl refl

pub returns-clause-contact_left_to_caller : goal.returns-clause-contact_left_to_caller
unfolding rank_of
returns-clause-contact_left_to_caller c = goes contact_left_to_caller refl refl

pub returns-clause-contact_known_already : goal.returns-clause-contact_known_already
unfolding rank_of
returns-clause-contact_known_already c = goes contact_known_already refl refl

pub returns-clause-redirection_without_contact : goal.returns-clause-redirection_without_contact
unfolding rank_of
returns-clause-redirection_without_contact c = goes redirection_without_contact refl refl

pub returns-clause-no_contact_at_depth_zero : goal.returns-clause-no_contact_at_depth_zero
unfolding rank_of
returns-clause-no_contact_at_depth_zero c = goes no_contact_at_depth_zero refl refl

pub returns-clause-one_step_at_depth_one : goal.returns-clause-one_step_at_depth_one
unfolding rank_of
returns-clause-one_step_at_depth_one c = goes one_step_at_depth_one refl refl

use Rattle.fork_model.proofs.Common.{refl}
use Rattle.fork_model.specs.Rank.{rank_of}
use Rattle.fork_model.specs.Worked.{lower_q_waits, lower_q_never_tried, contacts_before_lower_q}
use Rattle.fork_model.proofs.Scripts.{goes}
use Rattle.fork_model.proofs.worked.worked_series.Goals as goal

pub returns-clause-lower_q_waits : goal.returns-clause-lower_q_waits
unfolding rank_of
returns-clause-lower_q_waits c = goes lower_q_waits refl refl

pub returns-clause-lower_q_never_tried : goal.returns-clause-lower_q_never_tried
unfolding rank_of
returns-clause-lower_q_never_tried c = goes lower_q_never_tried refl refl

pub returns-clause-contacts_before_lower_q : goal.returns-clause-contacts_before_lower_q
unfolding rank_of
returns-clause-contacts_before_lower_q c = goes contacts_before_lower_q refl refl

use Rattle.fork_model.proofs.Common.{refl}
use Rattle.fork_model.specs.Rank.{rank_of}
use Rattle.fork_model.specs.Worked.{decline_waits_for_branches, success_after_decline, each_success_of_invite, first_success_of_other, provisional_until_success, cancelled_and_silent, ring_after_cancel, timer_ends_silent_branch}
use Rattle.fork_model.specs.Worked.{timer_cancels_rung_branch}
use Rattle.fork_model.proofs.Scripts.{goes}
use Rattle.fork_model.proofs.worked.worked_closings.Goals as goal

pub returns-clause-decline_waits_for_branches : goal.returns-clause-decline_waits_for_branches
unfolding rank_of
returns-clause-decline_waits_for_branches c = goes decline_waits_for_branches refl refl

pub returns-clause-success_after_decline : goal.returns-clause-success_after_decline
unfolding rank_of
returns-clause-success_after_decline c = goes success_after_decline refl refl

pub returns-clause-each_success_of_invite : goal.returns-clause-each_success_of_invite
unfolding rank_of
returns-clause-each_success_of_invite c = goes each_success_of_invite refl refl

pub returns-clause-first_success_of_other : goal.returns-clause-first_success_of_other
unfolding rank_of
returns-clause-first_success_of_other c = goes first_success_of_other refl refl

pub returns-clause-provisional_until_success : goal.returns-clause-provisional_until_success
unfolding rank_of
returns-clause-provisional_until_success c = goes provisional_until_success refl refl

pub returns-clause-cancelled_and_silent : goal.returns-clause-cancelled_and_silent
unfolding rank_of
returns-clause-cancelled_and_silent c = goes cancelled_and_silent refl refl

pub returns-clause-ring_after_cancel : goal.returns-clause-ring_after_cancel
unfolding rank_of
returns-clause-ring_after_cancel c = goes ring_after_cancel refl refl

pub returns-clause-timer_ends_silent_branch : goal.returns-clause-timer_ends_silent_branch
unfolding rank_of
returns-clause-timer_ends_silent_branch c = goes timer_ends_silent_branch refl refl

pub returns-clause-timer_cancels_rung_branch : goal.returns-clause-timer_cancels_rung_branch
unfolding rank_of
returns-clause-timer_cancels_rung_branch c = goes timer_cancels_rung_branch refl refl

use Rattle.call_laws.proofs.Standing.{begun_stands, steps_stand}
use Rattle.call_laws.proofs.law.calls_send_right.Goals as goal

pub returns-clause-begun : goal.returns-clause-begun
returns-clause-begun c = begun_stands c.branches_keep_what_they_send.ensures.begun c.branches_keep_their_answers.ensures.begun

pub returns-clause-kept : goal.returns-clause-kept
returns-clause-kept c = steps_stand c.branches_keep_what_they_send.ensures.kept c.branches_keep_their_answers.ensures.kept c.branches_keep_their_answers.ensures.firsts c.branches_go_on.ensures.by_event

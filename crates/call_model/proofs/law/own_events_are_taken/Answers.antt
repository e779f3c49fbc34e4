use Rattle.call_model.proofs.laws.Fitting as fitting
use Rattle.call_model.proofs.law.own_events_are_taken.Goals as goal

pub returns-clause-timeouts : goal.returns-clause-timeouts
returns-clause-timeouts c call n now branch sound there e = fitting.timeouts c.open_branches_take_events.ensures.never_refused call n now branch sound there e

pub returns-clause-faults : goal.returns-clause-faults
returns-clause-faults c call n now branch sound there e = fitting.faults c.open_branches_take_events.ensures.never_refused call n now branch sound there e

pub returns-clause-timer_c : goal.returns-clause-timer_c
returns-clause-timer_c c call n now sound e = fitting.timer_cs c.open_branches_take_events.ensures.never_refused call n now sound e

pub returns-clause-give_up : goal.returns-clause-give_up
returns-clause-give_up c call n now e = fitting.givings_up c.open_branches_take_events.ensures.never_refused call n now e

pub returns-clause-cancel : goal.returns-clause-cancel
returns-clause-cancel c call sound e = fitting.cancellings c.open_branches_take_events.ensures.never_refused call sound e

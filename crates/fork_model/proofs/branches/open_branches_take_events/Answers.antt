use Rattle.fork_model.proofs.BranchLemmas.{fit_or_stray, fitting_taken}
use Rattle.fork_model.proofs.branches.open_branches_take_events.Goals as goal

pub returns-clause-exact : goal.returns-clause-exact
returns-clause-exact c = fit_or_stray

pub returns-clause-never_refused : goal.returns-clause-never_refused
returns-clause-never_refused c = fitting_taken

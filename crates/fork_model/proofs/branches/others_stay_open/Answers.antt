use Rattle.fork_model.proofs.BranchLemmas.{others_left, others_open}
use Rattle.fork_model.proofs.branches.others_stay_open.Goals as goal

pub returns-clause-exact : goal.returns-clause-exact
returns-clause-exact c = others_left

pub returns-clause-stay : goal.returns-clause-stay
returns-clause-stay c = others_open

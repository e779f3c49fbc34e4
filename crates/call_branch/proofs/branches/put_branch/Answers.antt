use Rattle.call_branch.proofs.laws.BranchLists.{set_is}
use Rattle.call_branch.proofs.branches.put_branch.Goals as goal

pub returns : goal.returns
returns g c = set_is c.args.branches.now.items c.args.n c.args.branch

use Rattle.sip_branch.proofs.Common.{common_steps, arith}
use Rattle.sip_branch.proofs.branch.BranchName.is_token.Goals as goal

pub returns : goal.returns
returns c = grind (arith, common_steps)

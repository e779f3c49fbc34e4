use Rattle.call_state.proofs.Matched.{numbered}
use Rattle.call_state.proofs.matching.are_branches.Goals as goal

pub returns : goal.returns
returns c n lt = numbered c.args.call n c.fact_branch.ensures lt

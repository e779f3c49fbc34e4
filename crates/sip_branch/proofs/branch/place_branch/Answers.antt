use Rattle.sip_branch.proofs.Common.{arith, drop_all}
use Rattle.sip_branch.proofs.BranchPlaced.{placed}
use Rattle.sip_branch.proofs.branch.place_branch.Goals as goal

pub returns-clause-text : goal.returns-clause-text
returns-clause-text c =
    placed c.args.name.now _ _ _ _ _ _ _ _ _ c.place_text.ensures.text c.place_text-start.ensures.text c.key_digits.ensures c.place_dotted-start-3.ensures.text c.from-2.ensures c.place_dotted-start-2.ensures.text c.place_dotted-start.ensures.text c.from.ensures (drop_all 102 c.args.out.now (omega (arith, c.requires)))

use Rattle.sip_via.proofs.ViaReads.{is_none, is_one}
use Rattle.sip_branch.proofs.laws.HexLaws.{none_so}
use Rattle.sip_via.proofs.sender.sender_of.Goals as goal

pub returns-in_err-cut-clause-none : goal.returns-in_err-cut-clause-none
returns-in_err-cut-clause-none c = none_so c.from_residual.result _ (is_none c.args.value.now c.in_err-cut.ensures.none)

pub returns-clause-found : goal.returns-clause-found
returns-clause-found c = is_one c.args.value.now c.in_ok-cut.ensures.found.0

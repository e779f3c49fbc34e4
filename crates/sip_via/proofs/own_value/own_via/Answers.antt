use Rattle.sip_via.proofs.laws.OwnVia.{own_via-good}
use Rattle.sip_via.proofs.own_value.own_via.Goals as goal

pub returns-clause-good : goal.returns-clause-good
returns-clause-good g c = own_via-good c.args.own c.args.branch.now c.is_own_address.ensures c.write_branch.ensures.token

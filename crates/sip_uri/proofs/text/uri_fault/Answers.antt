use Rattle.sip_uri.proofs.Common.{rules}
use Rattle.sip_uri.proofs.laws.Only.{no_fault_exactly}
use Rattle.sip_uri.proofs.text.uri_fault.Goals as goal

pub returns-clause-none : goal.returns-clause-none
returns-clause-none c = no_fault_exactly c.args.text.now c.err.result (search rules)

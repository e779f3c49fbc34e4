use Rattle.sip_via.proofs.laws.MarkedMessage.{readable, unreadable}
use Rattle.sip_via.proofs.marking.readable_is_marked.Goals as goal

pub returns-clause-marked : goal.returns-clause-marked
returns-clause-marked c = readable

pub returns-clause-refused : goal.returns-clause-refused
returns-clause-refused c = unreadable

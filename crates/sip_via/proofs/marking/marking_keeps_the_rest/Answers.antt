use Rattle.sip_via.proofs.laws.MarkedMessage.{keeps-the-rest}
use Rattle.sip_via.proofs.marking.marking_keeps_the_rest.Goals as goal

pub returns-clause-start : goal.returns-clause-start
returns-clause-start c = λ m n source e. (keeps-the-rest m n source e).start

pub returns-clause-body : goal.returns-clause-body
returns-clause-body c = λ m n source e. (keeps-the-rest m n source e).body

pub returns-clause-others : goal.returns-clause-others
returns-clause-others c = λ m n source e. (keeps-the-rest m n source e).others

use Rattle.sip_via.proofs.laws.MarkedValues.{says-the-same}
use Rattle.sip_builders.proofs.marking.marking_keeps_the_sender.Goals as goal

pub returns-clause-host : goal.returns-clause-host
returns-clause-host c = λ m n source is e. (says-the-same m n source is e).host

pub returns-clause-port : goal.returns-clause-port
returns-clause-port c = λ m n source is e. (says-the-same m n source is e).port

pub returns-clause-branch : goal.returns-clause-branch
returns-clause-branch c = λ m n source is e. (says-the-same m n source is e).branch

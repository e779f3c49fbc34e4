use Rattle.fork_call.proofs.Naming.{destinations_lead, own_answers, requests_name}
use Rattle.fork_call.proofs.law.datagrams_go_back_to_the_request.Goals as goal

pub returns-clause-answers : goal.returns-clause-answers
returns-clause-answers c setup number m source call status opens =
    own_answers c.stripping_keeps_answers.ensures c.stripping_keeps_timestamps.ensures setup number m source call status opens

pub returns-clause-requests : goal.returns-clause-requests
returns-clause-requests c opened destination n target e = requests_name opened destination n target e

pub returns-clause-targets : goal.returns-clause-targets
returns-clause-targets c setup number m source call n destination opens at = destinations_lead setup number m source call n destination opens at

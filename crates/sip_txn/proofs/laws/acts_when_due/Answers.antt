use Rattle.sip_txn.proofs.DueTicks.{invite_client_acts, invite_server_acts, other_client_acts, other_server_acts}
use Rattle.sip_txn.proofs.laws.acts_when_due.Goals as goal

pub returns-clause-invite_client : goal.returns-clause-invite_client
returns-clause-invite_client c m now runs h = invite_client_acts m.reliability m.state m.timers.repeat m.timers.end now runs h

pub returns-clause-other_client : goal.returns-clause-other_client
returns-clause-other_client c m now runs h = other_client_acts m.reliability m.state m.timers.repeat m.timers.end now runs h

pub returns-clause-invite_server : goal.returns-clause-invite_server
returns-clause-invite_server c m now runs h = invite_server_acts m.reliability m.state m.timers.repeat m.timers.end now runs h

pub returns-clause-other_server : goal.returns-clause-other_server
returns-clause-other_server c m now runs h = other_server_acts m.reliability m.state m.timers.repeat m.timers.end now runs h

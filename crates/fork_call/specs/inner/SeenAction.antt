-- An action in memory.
use Rattle.call_model.specs.Due as due
use Rattle.fork_call.specs.declared.action.Action.{Action}
use Rattle.fork_call.specs.declared.action.Action.TheVariants as action

abbrev pub seen_action : Action → due.Action
seen_action action.SendAnswer = due.SendAnswer
seen_action action.TickServer = due.TickServer
seen_action (action.SendRequest n) = due.SendRequest n
seen_action (action.SendCancel n) = due.SendCancel n
seen_action (action.SendAck n) = due.SendAck n
seen_action (action.TickClient n) = due.TickClient n
seen_action (action.TickCancel n) = due.TickCancel n
seen_action (action.FireTimerC n) = due.FireTimerC n
seen_action (action.GiveUp n) = due.GiveUp n

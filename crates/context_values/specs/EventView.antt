-- The event that an event of the program stands for.
use Rattle.fork_model.specs.Event as spec
use Rattle.context_values.specs.declared.event.Event.{Event}
use Rattle.context_values.specs.declared.event.Event.TheVariants as event

abbrev pub event_of : {A : Type 0} → Event A → spec.Event
event_of (event.Ring n status) = spec.Ring n status
event_of (event.Answer n answer) = spec.Answer n answer
event_of (event.Timeout n) = spec.Timeout n
event_of (event.Fault n) = spec.Fault n
event_of (event.TimerC n) = spec.TimerC n
event_of (event.GiveUp n) = spec.GiveUp n
event_of event.Cancel = spec.Cancel

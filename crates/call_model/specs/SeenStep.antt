-- What comes of a pump, in memory.
use Rattle.call_model.specs.Pump as pump
use Rattle.call_model.specs.declared.step.Step.{Step}
use Rattle.call_model.specs.declared.step.Step.TheVariants as step
use Rattle.call_model.specs.SeenDatagram.{seen}

abbrev pub pumped : {A : Type 0} → Step A → pump.Pumped
pumped (step.Send d) = pump.Send (seen d)
pumped step.Did = pump.Did
pumped step.Idle = pump.Idle

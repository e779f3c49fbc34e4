-- The line that a line of the program stands for.
use Rattle.fork_model.specs.Event.{Ring, Answer, Timeout, Fault, TimerC, GiveUp, Cancel}
use Rattle.fork_rank.specs.KindView.{kind_of}
use Rattle.fork_program.specs.declared.line.ScriptLine.{ScriptLine}
use Rattle.fork_program.specs.declared.line.ScriptLine.TheVariants as line
use Rattle.fork_program.specs.Line as spec

abbrev pub line_of : ScriptLine → spec.Line
line_of (line.Kind kind) = spec.KindLine (kind_of kind)
line_of (line.Prefer preferred) = spec.PreferLine preferred
line_of (line.Depth depth) = spec.DepthLine depth.steps
line_of (line.Target q name) = spec.TargetLine q name.now
line_of (line.Ring n status) = spec.EventLine (Ring n status)
line_of (line.Answer n status) = spec.EventLine (Answer n (spec.bare status))
line_of (line.Timeout n) = spec.EventLine (Timeout n)
line_of (line.Fault n) = spec.EventLine (Fault n)
line_of (line.TimerC n) = spec.EventLine (TimerC n)
line_of (line.GiveUp n) = spec.EventLine (GiveUp n)
line_of line.Cancel = spec.EventLine Cancel
line_of (line.Contact q name) = spec.ContactLine q name.now
line_of (line.Other q text) = spec.OtherLine q text.now
line_of (line.Challenge proxy value) = spec.ChallengeLine proxy value.now

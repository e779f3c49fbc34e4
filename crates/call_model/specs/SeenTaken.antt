-- What comes of a message, in memory.
use Rattle.call_model.specs.Take as take
use Rattle.call_model.specs.declared.taken.Taken.{Taken}
use Rattle.call_model.specs.declared.taken.Taken.TheVariants as taken

abbrev pub seen_taken : Taken → take.Taken
seen_taken taken.Absorbed = take.Absorbed
seen_taken (taken.Posted at) = take.Posted at

use Rattle.fork_model.proofs.Common.{refl}
use Rattle.fork_model.specs.Rank.{rank_of}
use Rattle.fork_model.specs.Worked.{strays_take_positions}
use Rattle.fork_model.proofs.Scripts.{goes}
use Rattle.fork_model.proofs.worked.worked_strays.Goals as goal

pub returns-clause-strays_take_positions : goal.returns-clause-strays_take_positions
unfolding rank_of
returns-clause-strays_take_positions c = goes strays_take_positions refl refl

pub returns-clause-full_for_strays : goal.returns-clause-full_for_strays
returns-clause-full_for_strays c = (refl, refl, refl)

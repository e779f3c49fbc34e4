use Rattle.sip_build.proofs.Placed.{placed-then}
use Rattle.sip_build.proofs.own_line.place_address.Goals as goal

pub returns-clause-placed : goal.returns-clause-placed
returns-clause-placed c =
    placed-then _ _ _ _ _ _ _ _ c.place_small-at.ensures.placed
    (placed-then _ _ _ _ _ _ _ _ c.place_dotted-at.ensures.placed
    (placed-then _ _ _ _ _ _ _ _ c.place_dotted-at-2.ensures.placed c.place_dotted.ensures.placed))

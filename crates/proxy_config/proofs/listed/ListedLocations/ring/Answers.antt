use Rattle.proxy_config.proofs.Common.{List, Location, subst, sym}
use Rattle.proxy_config.specs.inner.UserPlaces.{AreOf}
use Rattle.proxy_config.proofs.Ringing.{still_listed}
use Rattle.proxy_config.proofs.listed.ListedLocations.ring.Goals as goal

pub invariant_of-self : goal.invariant_of-self
invariant_of-self g c =
    subst (λ (locations : List Location). AreOf locations c.self.inside.places) (sym c.ring_all.ensures)
    (still_listed c.args.longest c.self.inside.locations.items c.self.inside.places c.self.invariant)

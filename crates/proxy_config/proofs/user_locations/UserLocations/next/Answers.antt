use Rattle.proxy_config.proofs.UserPlaces.{next_at, next_none}
use Rattle.proxy_config.proofs.user_locations.UserLocations.next.Goals as goal

pub invariant_of-self : goal.invariant_of-self
invariant_of-self g c =
    next_at c.self.inside.locations.now c.self.inside.places.now c.in-Some.rest.now c.in-Some.place.now c.in-Some.ensures.cases.0 c.self.invariant

pub returns-clause-none : goal.returns-clause-none
returns-clause-none g c =
    next_none c.self.inside.locations.now c.self.inside.places.now c.in-Some.rest.now c.in-Some.place.now c.args.self.now c.in-Some.ensures.cases.0 c.self.invariant
    c.location_at.result c.location_at.ensures

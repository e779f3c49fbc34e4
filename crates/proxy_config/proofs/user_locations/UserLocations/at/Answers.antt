use Rattle.proxy_config.proofs.UserPlaces.{located_is, still_at}
use Rattle.proxy_config.proofs.user_locations.UserLocations.at.Goals as goal

pub invariant_of-result : goal.invariant_of-result
invariant_of-result g c = still_at c.args.locations.now c.args.places.now c.requires.0 c.requires.1

pub returns : goal.returns
returns g c = λ found e. located_is c.args.locations.now c.args.places.now found e

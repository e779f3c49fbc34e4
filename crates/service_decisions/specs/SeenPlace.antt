-- Places in memory.
use Rattle.service_decisions.specs.declared.place.Place.{Place}
use Rattle.service_decisions.specs.declared.place.Place.TheVariants as place
use Rattle.service_decisions.specs.Targets as spec

abbrev pub seen_place : {A : Type 0} → Place A → spec.Place
seen_place (place.OfUser user) = spec.OfUser user.items
seen_place (place.Beyond user) = spec.Beyond user.items
seen_place place.Nowhere = spec.Nowhere

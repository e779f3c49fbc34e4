use Rattle.std.proofs.Common.{◌≡◌, map, take}
use Rattle.proxy_config.specs.Moment.{way_of}
use Rattle.proxy_config.proofs.way.ways_to.Given as goal

abbrev pub invariant-loop-contact : goal.invariant-loop-contact
invariant-loop-contact g l = l.ways.items ≡ map way_of (take l.contact-index l.contacts)

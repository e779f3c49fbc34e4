use Rattle.service_config.proofs.Common.{◌<◌, ◌∙◌, Option, ap, arith, length, ◌||◌}
use Rattle.sip_uri.specs.declared.hop.Hop.{Hop}
use Rattle.service_config.specs.Settings.{is_location_at, is_there}
use Rattle.service_config.specs.inner.Hosts.{is_among}
use Rattle.service_config.proofs.HostSets.{one_more}
use Rattle.service_config.proofs.hosts.Hosts.add_locations.Goals as goal

pub loop-location-preserved : goal.loop-location-preserved
loop-location-preserved g c = λ other.
    let within : c.loop-location.location-index < length c.args.locations.now = omega arith in
    one_more (is_location_at other) c.args.locations.now c.loop-location.location-index c.location-item.result within c.location-item.is _ _ _ (c.loop-location.invariant other)
    (c.in_ok-add_if.ensures other ∙ ap (λ (hop : Option Hop). is_there other hop || is_among c.loop-location.self other) c.next_hop.ensures)

use Rattle.service_config.proofs.Common.{◌<◌, ◌∙◌, ◌==◌, ℕ, ap, arith, length, ◌||◌}
use Rattle.sip_uri.specs.declared.hop.Hop.{Hop}
use Rattle.service_config.specs.Net.{address_number}
use Rattle.service_config.specs.Settings.{is_gateway_at}
use Rattle.service_config.specs.inner.Hosts.{is_among}
use Rattle.service_config.proofs.HostSets.{one_more}
use Rattle.service_config.proofs.hosts.Hosts.add_gateways.Goals as goal

pub loop-gateway-preserved : goal.loop-gateway-preserved
loop-gateway-preserved g c = λ other.
    let within : c.loop-gateway.gateway-index < length c.args.gateways.now = omega arith in
    one_more (is_gateway_at other) c.args.gateways.now c.loop-gateway.gateway-index c.gateway-item.result within c.gateway-item.is _ _ _ (c.loop-gateway.invariant other)
    (c.in_ok-add.ensures other ∙ ap (λ (n : ℕ). n == other || is_among c.loop-gateway.self other) (c.address_number.ensures.value ∙ ap (λ (hop : Hop). address_number hop.addr) c.hop.ensures))

use Rattle.std.proofs.Common.{◌<◌, ◌∙◌, ap, arith, length, slice_set, sym}
use Rattle.std.proofs.lemmas.List.Edits.{map_over_more}
use Rattle.proxy_config.specs.Setup.{Location, with_longest}
use Rattle.proxy_config.proofs.listed.ring_all.Goals as goal

pub loop-location-preserved : goal.loop-location-preserved
loop-location-preserved g c =
    let within : c.loop-location.location-index < length c.deref_mut-location-items.result.now = omega arith in
    ap (λ (location : Location). slice_set c.loop-location.location-items c.loop-location.location-index location) (c.ring.ensures ∙ ap (with_longest c.args.longest) (sym c.location-item.is))
    ∙ map_over_more (with_longest c.args.longest) c.deref_mut-location-items.result.now c.loop-location.location-items c.loop-location.location-index c.location-item.result within
    c.loop-location.invariant c.location-item.is

use Rattle.std.proofs.Common.{◌∙◌, ap}
use Rattle.service_decisions.specs.Served.{has_place_at}
use Rattle.service_decisions.specs.Targets.{Place}
use Rattle.service_decisions.proofs.view.ServiceView.has_place.Goals as goal

pub returns : goal.returns
returns g c =
    let held = c.in_ok-has_place.ensures.0 in
    (held, c.in_ok-has_place.ensures.1 ∙ ap (λ (p : Place). has_place_at c.args.setup.now p c.args.self.now.moment held) c.in_ok-place.ensures)

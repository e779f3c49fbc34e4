use Rattle.std.proofs.Common.{◌∙◌}
use Rattle.std.proofs.lemmas.Option.{IfSome_then}
use Rattle.registrar.specs.SeenAsking.{seen_registration}
use Rattle.service_decisions.specs.SeenServing.{serving_of}
use Rattle.service_decisions.proofs.view.ServiceView.registered.Goals as goal

pub returns-in-Ok : goal.returns-in-Ok
returns-in-Ok g c =
    let made = c.in-Ok.ensures.made in
    c.settled.ensures (serving_of c.args.self.now) (seen_registration c.args.registration.now) made.0 made.1 (IfSome_then c.in-Ok.change c.in-Ok.ensures.user (λ change is. is ∙ c.user.ensures))

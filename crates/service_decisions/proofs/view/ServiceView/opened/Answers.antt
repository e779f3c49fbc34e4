use Rattle.std.proofs.Common.{◌∙◌, [], Option, ap}
use Rattle.fork_call.specs.Opening.{with_token}
use Rattle.proxy_config.specs.declared.dialog_token.DialogToken.{DialogToken}
use Rattle.proxy_dispatch.specs.Admitting as dispatch
use Rattle.service_decisions.specs.SeenServing.{serving_of}
use Rattle.service_decisions.specs.Served.{opened_at}
use Rattle.service_decisions.specs.Targets.{Place, token_for}
use Rattle.service_decisions.proofs.Opened.{opened_plainly}
use Rattle.service_decisions.proofs.view.ServiceView.opened.Goals as goal

pub returns-then-is_plain : goal.returns-then-is_plain
returns-then-is_plain g c =
    let setup = c.args.setup.now in
    let m = c.args.request.now in
    let plain = c.is_plain.ensures c.if-is_plain.true in
    let token = c.token_for.ensures ∙ ap (λ (t : Option DialogToken). token_for t m) c.token.ensures in (
      [],
      c.opens_standing.ensures setup ∙ ap (λ (t : Option DialogToken). dispatch.Opens (with_token t setup)) token
          ∙ ap dispatch.Opens (opened_plainly (serving_of c.args.self.now) setup c.args.rule m c.args.source plain),
    )

pub returns : goal.returns
returns g c =
    let held = c.in_ok-decision.ensures.0 in
    let at = ap (λ (p : Place). dispatch.Opens (opened_at (serving_of c.args.self.now) c.args.setup.now c.args.rule c.args.request.now c.args.source p held)) c.in_ok-place.ensures in
    (held, c.in_ok-decision.ensures.1 ∙ at)

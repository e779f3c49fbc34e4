use Rattle.std.proofs.Common.{◌∙◌, Bool, ap, sym}
use Rattle.std.specs.Prelude.{if◌then◌else◌}
use Rattle.fork_call.specs.Opening.{with_token}
use Rattle.proxy_dispatch.specs.Admitting.{Opens}
use Rattle.service_decisions.specs.SeenPlace.{seen_place}
use Rattle.service_decisions.specs.Targets.{moment_at}
use Rattle.service_decisions.proofs.moment.setup_with.Goals as goal

pub returns-then-is_none : goal.returns-then-is_none
returns-then-is_none g c =
    let setup = c.args.setup.now in
    let none = sym c.is_none.ensures ∙ c.if-is_none.true in
    c.opens_standing.ensures setup
    ∙ ap (λ (b : Bool). Opens (with_token c.args.token (if b then setup else moment_at setup (seen_place c.args.place.now) c.args.contacts.now))) (sym none)

pub returns : goal.returns
returns g c =
    let setup = c.args.setup.now in
    let some = sym c.is_none.ensures ∙ c.if-is_none.false in
    ap Opens (c.with_token.ensures ∙ ap (with_token c.args.token) c.in_ok-moment.ensures)
    ∙ ap (λ (b : Bool). Opens (with_token c.args.token (if b then setup else moment_at setup (seen_place c.args.place.now) c.args.contacts.now))) (sym some)

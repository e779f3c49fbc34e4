use Rattle.proxy_dispatch.proofs.Common.{◌≡◌, ◌∙◌, [], refl, sym, IfOk-weaker, seen_sent}
use Rattle.std.proofs.Common.{false, true}
use Rattle.proxy_dispatch.specs.Asking.{asks_service}
use Rattle.proxy_dispatch.specs.declared.admission.Opener.TheVariants.{Registering}
use Rattle.proxy_dispatch.proofs.Becoming.{not_registering, opener_at, other_is, registering_is, told_so}
use Rattle.proxy_dispatch.proofs.Outcomes.{by_both}
use Rattle.proxy_dispatch.proofs.requests.admitted.Goals as goal

pub returns-then-is_registering : goal.returns-then-is_registering
returns-then-is_registering g c =
    let serving = g.N.Admission.serving c.args.admission.now in
    let r = c.args.received in
    let is : Registering ≡ c.args.opener = registering_is c.args.opener (sym c.is_registering.ensures ∙ c.if-is_registering.true) in
    IfOk-weaker c.registered.result _ _
    (λ outcome h. ([], refl, opener_at serving c.args.setup.now r.message r.source r.now c.args.key.items [] outcome.handled (seen_sent outcome.datagram) Registering c.args.opener is h))
    c.registered.ensures

pub returns-then-branch : goal.returns-then-branch
returns-then-branch g c =
    let serving = g.N.Admission.serving c.args.admission.now in
    let r = c.args.received in
    by_both c.told.result _ _ _
    (λ outcome handled sent. (
      [],
      refl,
      not_registering serving c.args.setup.now r.message r.source r.now c.args.key.items [] outcome.handled (seen_sent outcome.datagram) c.args.opener (other_is c.args.opener (sym c.is_registering.ensures ∙ c.if-is_registering.false))
          (told_so (asks_service c.args.setup.now r.message) serving c.args.setup.now r.message r.source r.now c.args.key.items [] outcome.handled (seen_sent outcome.datagram) true
          (let e = c.in_ok-asks_service.ensures in let f = c.if-branch.true in cc) (record { unseen = refl; handled_is = handled; sent_is = sent })),
    ))
    c.told.ensures.handled c.told.ensures.sent

pub returns : goal.returns
returns g c =
    let serving = g.N.Admission.serving c.args.admission.now in
    let r = c.args.received in
    IfOk-weaker c.opened.result _ _
    (λ outcome h. (
      h.0,
      h.1,
      not_registering serving c.args.setup.now r.message r.source r.now c.args.key.items h.0 outcome.handled (seen_sent outcome.datagram) c.args.opener (other_is c.args.opener (sym c.is_registering.ensures ∙ c.if-is_registering.false))
          (told_so (asks_service c.args.setup.now r.message) serving c.args.setup.now r.message r.source r.now c.args.key.items h.0 outcome.handled (seen_sent outcome.datagram) false
          (let e = c.in_ok-asks_service.ensures in let f = c.if-branch.false in cc) h.2),
    ))
    c.opened.ensures

use Rattle.proxy_dispatch.proofs.Common.{◌≡◌, ◌∙◌, [], ap, refl, IfOk-weaker, seen_sent}
use Rattle.std.proofs.Common.{Bool, false, true}
use Rattle.proxy_dispatch.specs.Admitting.{opener_of}
use Rattle.proxy_dispatch.proofs.Becoming.{asked_so, opener_at}
use Rattle.proxy_dispatch.proofs.Outcomes.{by_both}
use Rattle.proxy_dispatch.proofs.requests.asked.Goals as goal

pub returns-then-not-admits : goal.returns-then-not-admits
returns-then-not-admits g c =
    let serving = g.N.Admission.serving c.args.admission.now in
    let m = c.args.received.message in
    let opens : c.in_ok-opener.opener ≡ opener_of serving.registrar c.args.setup.now m = c.in_ok-opener.ensures ∙ ap (λ (b : Bool). opener_of b c.args.setup.now m) c.has_registrar-has_registrar.ensures in
    let said : c.admits.result ≡ false = let a = c.if-not-admits.true in cc in
    by_both c.turned_away.result _ _ _
    (λ outcome handled sent. (
      [],
      refl,
      asked_so serving c.args.setup.now m c.args.received.source c.args.received.now c.args.key.items c.in_ok-opener.opener c.admits.result false [] outcome.handled (seen_sent outcome.datagram)
          c.admits.ensures opens said (record { unseen = refl; handled_is = handled; sent_is = sent }),
    ))
    c.turned_away.ensures.handled c.turned_away.ensures.sent

pub returns-then-not-has_opened : goal.returns-then-not-has_opened
returns-then-not-has_opened g c =
    let serving = g.N.Admission.serving c.args.admission.now in
    let m = c.args.received.message in
    let opens : c.in_ok-opener.opener ≡ opener_of serving.registrar c.args.setup.now m = c.in_ok-opener.ensures ∙ ap (λ (b : Bool). opener_of b c.args.setup.now m) c.has_registrar-has_registrar.ensures in
    let said : c.admits.result ≡ true = let a = c.if-not-admits.false in cc in
    IfOk-weaker c.admitted-outcome.result _ _
    (λ outcome h. (
      h.0,
      h.1,
      asked_so serving c.args.setup.now m c.args.received.source c.args.received.now c.args.key.items c.in_ok-opener.opener c.admits.result true h.0 outcome.handled (seen_sent outcome.datagram)
          c.admits.ensures opens said
          (opener_at serving c.args.setup.now m c.args.received.source c.args.received.now c.args.key.items h.0 outcome.handled (seen_sent outcome.datagram) c.in_ok-opener.opener (opener_of serving.registrar c.args.setup.now m) opens h.2),
    ))
    c.admitted-outcome.ensures

pub returns-else-not-has_opened : goal.returns-else-not-has_opened
returns-else-not-has_opened g c =
    let serving = g.N.Admission.serving c.args.admission.now in
    let m = c.args.received.message in
    let opens : c.in_ok-opener.opener ≡ opener_of serving.registrar c.args.setup.now m = c.in_ok-opener.ensures ∙ ap (λ (b : Bool). opener_of b c.args.setup.now m) c.has_registrar-has_registrar.ensures in
    let said : c.admits.result ≡ true = let a = c.if-not-admits.false in cc in
    IfOk-weaker c.admitted-outcome.result _ _
    (λ outcome h. (
      h.0,
      h.1,
      asked_so serving c.args.setup.now m c.args.received.source c.args.received.now c.args.key.items c.in_ok-opener.opener c.admits.result true h.0 outcome.handled (seen_sent outcome.datagram)
          c.admits.ensures opens said
          (opener_at serving c.args.setup.now m c.args.received.source c.args.received.now c.args.key.items h.0 outcome.handled (seen_sent outcome.datagram) c.in_ok-opener.opener (opener_of serving.registrar c.args.setup.now m) opens h.2),
    ))
    c.admitted-outcome.ensures

use Rattle.proxy_dispatch.proofs.Common.{◌≡◌, [], refl, IfOk-weaker, seen_sent}
use Rattle.std.proofs.Common.{false, true}
use Rattle.proxy_routing.specs.Admission.{asks_extension, has_via}
use Rattle.proxy_dispatch.proofs.Becoming.{registering_so}
use Rattle.proxy_dispatch.proofs.Outcomes.{by_both}
use Rattle.proxy_routing.proofs.laws.ReadTops.{told_cookie}
use Rattle.proxy_dispatch.proofs.registers.registered.Goals as goal

pub returns-then-not-has_cookie : goal.returns-then-not-has_cookie
returns-then-not-has_cookie g c =
    let serving = g.N.Admission.serving c.args.admission.now in
    let r = c.args.received in
    let via : has_via r.message ≡ false = let e = c.has_cookie.ensures in let told = told_cookie r.message r.source r.top c.requires in let f = c.if-not-has_cookie.true in cc in
    by_both c.answered.result _ _ _
    (λ outcome handled sent. registering_so serving c.args.setup.now r.message r.source r.now outcome.handled (seen_sent outcome.datagram) (has_via r.message) false (asks_extension r.message) (asks_extension r.message) via refl
    (refl, (handled, sent)))
    c.answered.ensures.handled c.answered.ensures.sent

pub returns-then-asks_extension : goal.returns-then-asks_extension
returns-then-asks_extension g c =
    let serving = g.N.Admission.serving c.args.admission.now in
    let r = c.args.received in
    let via : has_via r.message ≡ true = let e = c.has_cookie.ensures in let told = told_cookie r.message r.source r.top c.requires in let f = c.if-not-has_cookie.false in cc in
    let asks : asks_extension r.message ≡ true = let e = c.asks_extension.ensures in let f = c.if-asks_extension.true in cc in
    by_both c.answered-then-asks_extension.result _ _ _
    (λ outcome handled sent. registering_so serving c.args.setup.now r.message r.source r.now outcome.handled (seen_sent outcome.datagram) (has_via r.message) true (asks_extension r.message) true via asks
    (refl, (handled, sent)))
    c.answered-then-asks_extension.ensures.handled c.answered-then-asks_extension.ensures.sent

pub returns : goal.returns
returns g c =
    let serving = g.N.Admission.serving c.args.admission.now in
    let r = c.args.received in
    let via : has_via r.message ≡ true = let e = c.has_cookie.ensures in let told = told_cookie r.message r.source r.top c.requires in let f = c.if-not-has_cookie.false in cc in
    let asks : asks_extension r.message ≡ false = let e = c.asks_extension.ensures in let f = c.if-asks_extension.false in cc in
    IfOk-weaker c.asked.result _ _
    (λ outcome h. registering_so serving c.args.setup.now r.message r.source r.now outcome.handled (seen_sent outcome.datagram) (has_via r.message) true (asks_extension r.message) false via asks h)
    c.asked.ensures

use Rattle.proxy_dispatch.proofs.Common.{◌≡◌, ◌∙◌, Some, ap, inl, refl, sym, IfOk-weaker, seen_sent}
use Rattle.std.proofs.lemmas.Bool.{false≢true}
use Rattle.fork_call.specs.Opening.{with_token}
use Rattle.proxy_dispatch.specs.Admitting.{Answers, Leaves, Opens}
use Rattle.proxy_dispatch.specs.Passing.{HasOwnTag}
use Rattle.proxy_dispatch.specs.SeenDecision.{seen_decision}
use Rattle.proxy_dispatch.proofs.Becoming.{ack_at, ack_with}
use Rattle.proxy_dispatch.proofs.acks.acknowledged.Goals as goal

pub going-requires-clause-other : goal.going-requires-clause-other
going-requires-clause-other g c = λ h. false≢true (sym c.if-has_own_tag.false ∙ c.has_own_tag.ensures.1 h)

pub returns-then-has_own_tag : goal.returns-then-has_own_tag
returns-then-has_own_tag g c = (refl, inl (c.has_own_tag.ensures.0 c.if-has_own_tag.true, c.silent.ensures.handled, ap seen_sent c.silent.ensures.silent))

pub returns-in-Opens : goal.returns-in-Opens
returns-in-Opens g c =
    let serving = g.N.Admission.serving c.args.admission.now in
    let r = c.args.received in
    let decision = seen_decision c.args.setup.now c.in_ok-decision.decision in
    let own : HasOwnTag r.message → ⊥ = λ h. false≢true (sym c.if-has_own_tag.false ∙ c.has_own_tag.ensures.1 h) in
    IfOk-weaker c.going.result _ _
    (λ outcome h. ack_at serving c.args.setup.now r.message r.source r.now outcome.handled (seen_sent outcome.datagram) decision (Opens c.args.setup.now) own c.in_ok-decision.ensures
    (ap (seen_decision c.args.setup.now) c.in-Opens.is) h)
    c.going.ensures

pub returns-in-OpensWith : goal.returns-in-OpensWith
returns-in-OpensWith g c =
    let serving = g.N.Admission.serving c.args.admission.now in
    let r = c.args.received in
    let token = c.in-OpensWith.field-0 in
    let decision = seen_decision c.args.setup.now c.in_ok-decision.decision in
    let own : HasOwnTag r.message → ⊥ = λ h. false≢true (sym c.if-has_own_tag.false ∙ c.has_own_tag.ensures.1 h) in
    IfOk-weaker c.going-in-OpensWith.result _ _
    (λ outcome h. ack_at serving c.args.setup.now r.message r.source r.now outcome.handled (seen_sent outcome.datagram) decision (Opens (with_token (Some token) c.args.setup.now)) own c.in_ok-decision.ensures
    (ap (seen_decision c.args.setup.now) c.in-OpensWith.is) (ack_with token c.args.setup.now r.message r.source outcome.handled (seen_sent outcome.datagram) h))
    c.going-in-OpensWith.ensures

pub returns-in-OpensBy : goal.returns-in-OpensBy
returns-in-OpensBy g c =
    let serving = g.N.Admission.serving c.args.admission.now in
    let r = c.args.received in
    let decision = seen_decision c.args.setup.now c.in_ok-decision.decision in
    let own : HasOwnTag r.message → ⊥ = λ h. false≢true (sym c.if-has_own_tag.false ∙ c.has_own_tag.ensures.1 h) in
    IfOk-weaker c.going-in-OpensBy.result _ _
    (λ outcome h. ack_at serving c.args.setup.now r.message r.source r.now outcome.handled (seen_sent outcome.datagram) decision (Opens c.in-OpensBy.moment) own c.in_ok-decision.ensures
    (ap (seen_decision c.args.setup.now) c.in-OpensBy.is) h)
    c.going-in-OpensBy.ensures

pub returns-in-Answers : goal.returns-in-Answers
returns-in-Answers g c =
    let serving = g.N.Admission.serving c.args.admission.now in
    let r = c.args.received in
    let decision = seen_decision c.args.setup.now c.in_ok-decision.decision in
    let own : HasOwnTag r.message → ⊥ = λ h. false≢true (sym c.if-has_own_tag.false ∙ c.has_own_tag.ensures.1 h) in
    let outcome = c.silent-in-Answers.result in
    ack_at serving c.args.setup.now r.message r.source r.now outcome.handled (seen_sent outcome.datagram) decision (Answers c.in-Answers.field-0) own c.in_ok-decision.ensures
    (ap (seen_decision c.args.setup.now) c.in-Answers.is) (c.silent-in-Answers.ensures.handled, ap seen_sent c.silent-in-Answers.ensures.silent)

pub returns-in-Leaves : goal.returns-in-Leaves
returns-in-Leaves g c =
    let serving = g.N.Admission.serving c.args.admission.now in
    let r = c.args.received in
    let decision = seen_decision c.args.setup.now c.in_ok-decision.decision in
    let own : HasOwnTag r.message → ⊥ = λ h. false≢true (sym c.if-has_own_tag.false ∙ c.has_own_tag.ensures.1 h) in
    let outcome = c.silent-in-Leaves.result in
    ack_at serving c.args.setup.now r.message r.source r.now outcome.handled (seen_sent outcome.datagram) decision (Leaves) own c.in_ok-decision.ensures
    (ap (seen_decision c.args.setup.now) c.in-Leaves.is) (c.silent-in-Leaves.ensures.handled, ap seen_sent c.silent-in-Leaves.ensures.silent)

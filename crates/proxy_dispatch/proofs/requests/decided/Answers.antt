use Rattle.proxy_dispatch.proofs.Common.{[], Some, ap, refl, IfOk-weaker, seen_sent}
use Rattle.fork_call.specs.Opening.{with_token}
use Rattle.proxy_dispatch.specs.Admitting.{Answers, Leaves, Opens}
use Rattle.proxy_dispatch.specs.SeenDecision.{seen_decision}
use Rattle.proxy_dispatch.proofs.Becoming.{decided_at}
use Rattle.proxy_dispatch.proofs.requests.decided.Goals as goal

pub returns-in-Opens : goal.returns-in-Opens
returns-in-Opens g c =
    let o = c.args.opening in
    IfOk-weaker c.opened_by.result _ _
    (λ outcome h. (
      h.0,
      h.1,
      decided_at c.args.setup.now o.request o.source o.now c.args.key.items h.0 outcome.handled (seen_sent outcome.datagram) (seen_decision c.args.setup.now c.args.decision) (Opens c.args.setup.now)
          (ap (seen_decision c.args.setup.now) c.in-Opens.is) h.2,
    ))
    c.opened_by.ensures

pub returns-in-OpensWith : goal.returns-in-OpensWith
returns-in-OpensWith g c =
    let o = c.args.opening in
    IfOk-weaker c.opened_by-in-OpensWith.result _ _
    (λ outcome h. (
      h.0,
      h.1,
      decided_at c.args.setup.now o.request o.source o.now c.args.key.items h.0 outcome.handled (seen_sent outcome.datagram) (seen_decision c.args.setup.now c.args.decision) (Opens (with_token (Some c.in-OpensWith.token) c.args.setup.now))
          (ap (seen_decision c.args.setup.now) c.in-OpensWith.is) h.2,
    ))
    c.opened_by-in-OpensWith.ensures

pub returns-in-OpensBy : goal.returns-in-OpensBy
returns-in-OpensBy g c =
    let o = c.args.opening in
    IfOk-weaker c.opened_by-in-OpensBy.result _ _
    (λ outcome h. (
      h.0,
      h.1,
      decided_at c.args.setup.now o.request o.source o.now c.args.key.items h.0 outcome.handled (seen_sent outcome.datagram) (seen_decision c.args.setup.now c.args.decision) (Opens c.in-OpensBy.moment)
          (ap (seen_decision c.args.setup.now) c.in-OpensBy.is) h.2,
    ))
    c.opened_by-in-OpensBy.ensures

pub returns-in-Answers : goal.returns-in-Answers
returns-in-Answers g c =
    let o = c.args.opening in
    IfOk-weaker c.refused.result _ _
    (λ outcome h. (
      [],
      refl,
      decided_at c.args.setup.now o.request o.source o.now c.args.key.items [] outcome.handled (seen_sent outcome.datagram) (seen_decision c.args.setup.now c.args.decision) (Answers c.in-Answers.answer)
          (ap (seen_decision c.args.setup.now) c.in-Answers.is) h,
    ))
    c.refused.ensures

pub returns-in-Leaves : goal.returns-in-Leaves
returns-in-Leaves g c =
    let o = c.args.opening in
    IfOk-weaker c.left.result _ _
    (λ outcome h. (
      [],
      refl,
      decided_at c.args.setup.now o.request o.source o.now c.args.key.items [] outcome.handled (seen_sent outcome.datagram) (seen_decision c.args.setup.now c.args.decision) (Leaves)
          (ap (seen_decision c.args.setup.now) c.in-Leaves.is) h,
    ))
    c.left.ensures

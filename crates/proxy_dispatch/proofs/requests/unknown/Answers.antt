use Rattle.proxy_dispatch.proofs.Common.{◌≡◌, ◌∙◌, [], None, Option, Some, List, ℕ, ap, refl, sym, IfOk-weaker, seen_sent, request_key}
use Rattle.std.specs.Prelude.{option_map}
use Rattle.proxy_dispatch.specs.declared.purpose.RequestKind.TheVariants as purposes
use Rattle.proxy_dispatch.proofs.Becoming.{key_so, new_at, purpose_at}
use Rattle.proxy_dispatch.proofs.Outcomes.{by_both}
use Rattle.proxy_dispatch.proofs.requests.unknown.Goals as goal

no_key : {V : Type 0} (items : V → List ℕ) (key : Option V) (own : Option (List ℕ)) → option_map items key ≡ own → key ≡ None → own ≡ None
no_key items key own e f = sym e ∙ ap (option_map items) f

pub returns-in-Ack : goal.returns-in-Ack
returns-in-Ack g c =
    let r = c.args.received in
    IfOk-weaker c.acknowledged.result _ _
    (λ outcome h. (
      [],
      refl,
      purpose_at (g.N.Admission.serving c.args.admission.now) c.args.setup.now r.message r.source r.now c.args.purpose purposes.Ack [] outcome.handled (seen_sent outcome.datagram) c.in-Ack.is h,
    ))
    c.acknowledged.ensures

pub returns-in-Cancel : goal.returns-in-Cancel
returns-in-Cancel g c =
    let r = c.args.received in
    by_both c.answered.result _ _ _
    (λ outcome handled sent. (
      [],
      refl,
      purpose_at (g.N.Admission.serving c.args.admission.now) c.args.setup.now r.message r.source r.now c.args.purpose purposes.Cancel [] outcome.handled (seen_sent outcome.datagram) c.in-Cancel.is (refl, (handled, sent)),
    ))
    c.answered.ensures.handled c.answered.ensures.sent

pub returns-in-Some : goal.returns-in-Some
returns-in-Some g c =
    let r = c.args.received in
    let serving = g.N.Admission.serving c.args.admission.now in
    IfOk-weaker c.asked.result _ _
    (λ outcome h. (
      h.0,
      h.1,
      purpose_at serving c.args.setup.now r.message r.source r.now c.args.purpose purposes.Opening h.0 outcome.handled (seen_sent outcome.datagram) c.in-Opening.is
          (new_at serving c.args.setup.now r.message r.source r.now (Some c.in-Some.key.items) (request_key r.message) h.0 outcome.handled (seen_sent outcome.datagram) (sym (key_so _ _ _ _ _ c.requires.key c.in-Some.is refl)) h.2),
    ))
    c.asked.ensures

pub returns-in-None : goal.returns-in-None
returns-in-None g c =
    let r = c.args.received in
    let serving = g.N.Admission.serving c.args.admission.now in
    by_both c.answered-in-None.result _ _ _
    (λ outcome handled sent. (
      [],
      refl,
      purpose_at serving c.args.setup.now r.message r.source r.now c.args.purpose purposes.Opening [] outcome.handled (seen_sent outcome.datagram) c.in-Opening.is
          (new_at serving c.args.setup.now r.message r.source r.now None (request_key r.message) [] outcome.handled (seen_sent outcome.datagram) (sym (no_key _ _ _ c.requires.key c.in-None.is)) (refl, (handled, sent))),
    ))
    c.answered-in-None.ensures.handled c.answered-in-None.ensures.sent

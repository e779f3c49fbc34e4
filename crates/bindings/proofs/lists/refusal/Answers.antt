use Rattle.std.proofs.Common.{true, false, refl, sym, ◌∙◌, arith}
use Rattle.bindings.specs.Bindings.{there}
use Rattle.bindings.specs.Registering.{is_late}
use Rattle.bindings.specs.Seen.{register_of}
use Rattle.bindings.proofs.Refused.{picked}
use Rattle.bindings.proofs.lists.refusal.Goals as goal

pub returns-then-is_too_brief : goal.returns-then-is_too_brief
returns-then-is_too_brief g c =
    let r = c.args.request.now in
    let bindings = there r.at c.args.bindings.now in
    picked r bindings true (is_late (register_of r) bindings) (sym c.star_is_wrong.ensures ∙ c.if-star_is_wrong.false) (omega (arith, c.if-request-gt-MOST.false)) (sym c.has_twice.ensures ∙ c.if-has_twice.false)
    (sym c.is_too_brief.ensures ∙ c.if-is_too_brief.true) refl

pub returns-then-is_late : goal.returns-then-is_late
returns-then-is_late g c =
    let r = c.args.request.now in
    picked r (there r.at c.args.bindings.now) false true (sym c.star_is_wrong.ensures ∙ c.if-star_is_wrong.false) (omega (arith, c.if-request-gt-MOST.false)) (sym c.has_twice.ensures ∙ c.if-has_twice.false)
    (sym c.is_too_brief.ensures ∙ c.if-is_too_brief.false) (sym c.is_late.ensures ∙ c.if-is_late.true)

pub returns : goal.returns
returns g c =
    let r = c.args.request.now in
    picked r (there r.at c.args.bindings.now) false false (sym c.star_is_wrong.ensures ∙ c.if-star_is_wrong.false) (omega (arith, c.if-request-gt-MOST.false)) (sym c.has_twice.ensures ∙ c.if-has_twice.false)
    (sym c.is_too_brief.ensures ∙ c.if-is_too_brief.false) (sym c.is_late.ensures ∙ c.if-is_late.false)

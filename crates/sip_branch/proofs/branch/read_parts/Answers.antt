use Rattle.sip_branch.proofs.Common.{◌∙◌, arith, ap, sym, BranchParts, BranchName, common_steps}
use Rattle.sip_branch.proofs.BranchLaws.{branch_is, number_refused, number_same, number_text}
use Rattle.sip_branch.proofs.laws.HexLaws.{hex_text_one}
use Rattle.sip_branch.proofs.branch.read_parts.Goals as goal

pub returns-in_err-instance-clause-only : goal.returns-in_err-instance-clause-only
returns-in_err-instance-clause-only c = grind (arith, number_refused)

pub returns-in_err-context-clause-only : goal.returns-in_err-context-clause-only
returns-in_err-context-clause-only c = grind (arith, number_refused)

pub returns-in_err-target-clause-only : goal.returns-in_err-target-clause-only
returns-in_err-target-clause-only c = grind (arith, number_refused)

pub returns-clause-found : goal.returns-clause-found
returns-clause-found c = grind (arith, common_steps, number_text)

pub returns-clause-only : goal.returns-clause-only
returns-clause-only c = λ b is e.
    let made : BranchName = record { key = c.in_ok-key.key; instance = c.in_ok-instance.field-0; context = c.in_ok-context.context; target = c.in_ok-target.field-0 } in
    let instance = is.instance in
    let context = is.context in
    let target = is.target in
    branch_is made b
    (hex_text_one made.key b.key (sym c.in_ok-key.ensures.found ∙ ap (λ (p : BranchParts). p.key) e))
    (number_same _ c.args.parts.now.instance.now made.instance b.instance (omega (arith, instance, c.from.ensures)) (omega (arith, instance)) c.in_ok-instance.ensures (ap (λ (p : BranchParts). p.instance) e))
    (number_same _ c.args.parts.now.context.now made.context b.context (omega (arith, context)) context c.in_ok-context.ensures (ap (λ (p : BranchParts). p.context) e))
    (number_same _ c.args.parts.now.target.now made.target b.target (omega (arith, target, c.from-2.ensures)) (omega (arith, target)) c.in_ok-target.ensures (ap (λ (p : BranchParts). p.target) e))

use Rattle.sip_branch.proofs.BranchLaws.{parts_refused, parts_same, some_map, text_is}
use Rattle.sip_branch.proofs.branch.read_branch.Goals as goal

pub returns-in_err-parts-clause-only : goal.returns-in_err-parts-clause-only
returns-in_err-parts-clause-only c = λ b is e.
    absurd (parts_refused c.args.text.now c.in_ok-strip_prefix.field-0.now b is c.in_ok-strip_prefix.ensures.cases.1 e c.in_err-parts.ensures)

pub returns-clause-found : goal.returns-clause-found
returns-clause-found c =
    some_map c.read_parts.result _ _ (λ name e. text_is c.args.text.now c.in_ok-strip_prefix.field-0.now _ name c.in_ok-strip_prefix.ensures.cases.0 c.in_ok-strip_prefix.ensures.cases.1 c.in_ok-parts.ensures e) c.read_parts.ensures.found

pub returns-clause-only : goal.returns-clause-only
returns-clause-only c = λ b is e.
    c.read_parts.ensures.only b is (parts_same c.args.text.now c.in_ok-strip_prefix.field-0.now _ b is c.in_ok-strip_prefix.ensures.cases.1 e c.in_ok-parts.ensures)

use Rattle.fork_context.proofs.Common.{◌∙◌, ap, slice_get, Table, stored_at, common_steps, arith}
use Rattle.fork_context.proofs.ForkReads.{none_there, none_row_extras, there, answer_there}
use Rattle.fork_context.proofs.fork.Fork.answer.Goals as goal

pub returns-in_err-row : goal.returns-in_err-row
returns-in_err-row g c = grind (arith, common_steps, none_there)

pub returns-in_err-get : goal.returns-in_err-get
returns-in_err-get g c = grind (arith, common_steps, none_row_extras)

pub returns : goal.returns
returns g c =
    let n = c.args.n in
    let is = there c.self.inside.tree.rows c.self.inside.extras n n c.in_ok-row.row c.in_ok-get.field-0.now c.self.invariant.each c.in_ok-row.ensures
    c.in_ok-get.ensures in
    c.stored_answer.ensures
    ∙ answer_there c.self.inside.tree.rows c.self.inside.extras n n c.in_ok-row.row c.in_ok-get.field-0.now is
    ∙ ap (λ (t : Table). stored_at (slice_get t.rows n)) c.self.view_is

use Rattle.fork_context.proofs.Common.{◌∙◌, ap, ℕ, Some, slice_get, option_map, Table, RowView, row_shown, common_steps, arith}
use Rattle.fork_context.proofs.ForkReads.{none_there, none_row_extras, there, look_there}
use Rattle.fork_context.proofs.fork.Fork.look.Goals as goal

pub returns-in_err-row : goal.returns-in_err-row
returns-in_err-row g c = grind (arith, common_steps, none_there)

pub returns-in_err-row_extras : goal.returns-in_err-row_extras
returns-in_err-row_extras g c = grind (arith, common_steps, none_row_extras)

pub returns : goal.returns
returns g c =
    let n = c.args.n in
    let is = there c.self.inside.tree.rows c.self.inside.extras n n c.in_ok-row.row c.in_ok-row_extras.row_extras.now c.self.invariant.each c.in_ok-row.ensures
    c.in_ok-row_extras.ensures in
    ap (λ (p : ℕ). Some (let v : RowView = record { row = c.in_ok-row.row; place = p } in v)) c.place.ensures
    ∙ look_there c.self.inside.tree.rows c.self.inside.extras n n c.in_ok-row.row c.in_ok-row_extras.row_extras.now is
    ∙ ap (λ (t : Table). option_map (row_shown n) (slice_get t.rows n)) c.self.view_is

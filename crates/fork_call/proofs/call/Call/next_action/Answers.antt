use Rattle.fork_call.proofs.Common.{◌≡◌, ◌∙◌, ◌<◌, ap, length, subst, sym, arith, true, false, [], Log, table_of, Core, is_due, Call, rows_of, IsIdle, is_due_at, served_due, seen_action}
use Rattle.fork_call.proofs.Stepping.{due_by, empty_by, idle_by, if_none, row_by}
use Rattle.fork_call.proofs.call.Call.next_action.Goals as goal

pub returns-in_err-n-clause-none : goal.returns-in_err-n-clause-none
returns-in_err-n-clause-none g c =
    let none : c.self.inside.state.server.owed ≡ [] =
    sym c.owed.ensures ∙ empty_by c.owed.result c.is_empty.result c.is_empty.ensures c.if-not-is_empty.false in
    let served : is_due c.args.now (served_due c.self.inside.state.server.machine) ≡ false =
    ap (is_due c.args.now) (sym c.server_due.ensures) ∙ sym c.is_due.ensures ∙ c.if-is_due.false in
    let P : Call → Type 0 = λ x. IsIdle x c.args.now in
    if_none c.from_residual.result (IsIdle c.args.self.now c.args.now)
    (subst P c.self.view_is
    (idle_by c.self.inside.state c.args.now c.self.inside.schedule c.self.invariant.times c.is_sized.ensures.each_branch none served c.in_err-n.ensures.none))

pub overflow_cast-n : goal.overflow_cast-n
overflow_cast-n g c =
    let below : c.in_ok-n.n < length (rows_of c.self.inside.state) =
    row_by c.self.inside.state c.args.now c.in_ok-n.n c.self.inside.schedule c.self.invariant.times c.in_ok-n.ensures.some in
    let rows = ap (λ (l : Log). length (table_of l).rows) c.book.ensures in
    let stands = ap (λ (k : Core). length k.table.rows) c.context.ensures.stands in
    let count = c.count-rows.ensures.value in
    let range = c.count-rows.ensures.range in
    omega (arith, below, rows, stands, count, range)

pub on_row-requires : goal.on_row-requires
on_row-requires g c = record { due = due_by c.self.inside.state c.args.now c.in_ok-n.n c.self.inside.schedule c.self.invariant.times c.in_ok-n.ensures.some }

pub returns-clause-some : goal.returns-clause-some
returns-clause-some g c =
    let P : Call → Type 0 = λ x. is_due_at x c.args.now (seen_action c.on_row.result) ≡ true in
    subst P c.self.view_is c.on_row.ensures

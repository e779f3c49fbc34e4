use Rattle.fork_call.proofs.Common.{◌≡◌, ◌∙◌, ap, subst, sym, true, Core, is_finished, Log, table_of, Call, rows_of, IsLeastDue, IsOver}
use Rattle.std.specs.Prelude.{IsTrue}
use Rattle.fork_call.proofs.Ending.{is_over_by}
use Rattle.fork_call.proofs.call.Call.over.Goals as goal

pub returns : goal.returns
returns g c =
    let call = c.self.inside.state in
    let b = c.branches_are_over.result in
    let P : Call → Type 0 = λ x. (IsTrue b → IsOver x) × (IsOver x → IsTrue b) in
    let L : Call → Type 0 = λ x. IsLeastDue x c.due.result in
    let finished : is_finished (rows_of call) ≡ true =
    ap (λ (l : Log). is_finished (table_of l).rows) (sym c.book.ensures)
    ∙ ap (λ (k : Core). is_finished k.table.rows) (sym c.context.ensures.stands)
    ∙ sym c.finished.ensures
    ∙ c.if-not-finished.false in
    let server = c.is_server_over.ensures.0 c.if-not-is_server_over.false in
    let least : IsLeastDue call c.due.result = subst L (sym c.self.view_is) c.due.ensures in
    subst P c.self.view_is (
      (λ all. is_over_by call c.due.result least (sym c.is_some.ensures ∙ c.if-is_some.false) finished server (c.branches_are_over.ensures.0 all)),
      (λ over. c.branches_are_over.ensures.1 over.branches),
    )

use Rattle.fork_tree.proofs.Common.{◌≡◌, ◌++◌, ℕ, List, Some, length, map, slice_get, arith, ap, sym, subst, ◌∙◌, Row, with_state, Ended, plain_state, Waiting, new_rows_of, waiting_row, Tree, IsRun, IsStanding}
use Rattle.fork_tree.proofs.Runs.{standing_next, next_parent, next_under, grown_length}
use Rattle.fork_tree.proofs.build.add_below.Goals as goal

pub unwrap-parent-requires : goal.unwrap-parent-requires
unwrap-parent-requires g c = grind (arith, next_under)

pub row_at-redirected-requires : goal.row_at-redirected-requires
row_at-redirected-requires g c = grind arith

pub end_of-end-requires : goal.end_of-end-requires
end_of-end-requires g c =
    (c.requires.given.parent c.args.first c.unwrap-parent.result c.row_at-next.result c.row_at-next.ensures c.unwrap-parent.ensures).ended
    c.row_at-redirected.result c.row_at-redirected.ensures

pub idle-requires : goal.idle-requires
idle-requires g c = record { few = omega (arith, ap length c.deref.ensures.value, c.in_ok-qs.ensures.few, c.requires.given.few) }

pub finish-requires-clause-waits : goal.finish-requires-clause-waits
finish-requires-clause-waits g c =
    let ic : slice_get c.args.rows.now (length c.args.tree.now.rows) ≡ Some c.row_at-next.result =
    ap (slice_get c.args.rows.now) (sym c.requires.next) ∙ c.row_at-next.ensures in
    next_parent c.args.tree.now.rows c.args.rows.now c.row_at-next.result c.unwrap-parent.result c.requires.given c.requires.standing ic c.unwrap-parent.ensures

pub finish-requires-clause-next : goal.finish-requires-clause-next
finish-requires-clause-next g c = ap (λ (w : Waiting). w.first) c.in_ok-below.ensures ∙ c.requires.next

pub returns-clause-standing : goal.returns-clause-standing
returns-clause-standing g c =
    let ic : slice_get c.args.rows.now (length c.args.tree.now.rows) ≡ Some c.row_at-next.result =
    ap (slice_get c.args.rows.now) (sym c.requires.next) ∙ c.row_at-next.ensures in
    let grown : List ℕ → List Row =
    λ qs. with_state c.args.tree.now.rows c.unwrap-parent.result (plain_state (Ended c.end_of-end.result)) ++ map (waiting_row (Some c.unwrap-parent.result)) (new_rows_of qs) in
    let e : c.finish.new.self.rows ≡ grown c.in_ok-qs.qs.items =
    ap (λ (t : Tree). t.rows) c.finish.ensures
    ∙ ap (λ (w : Waiting). with_state c.args.tree.now.rows c.unwrap-parent.result (plain_state (Ended c.end_of-end.result)) ++ map (waiting_row (Some c.unwrap-parent.result)) w.new_rows) c.in_ok-below.ensures
    ∙ ap grown c.deref.ensures.value in
    let R : ℕ → Type 0 = λ k. IsRun c.args.rows.now (Some c.unwrap-parent.result) k c.in_ok-qs.qs.items in
    subst (λ (r : List Row). IsStanding r c.args.rows.now) (sym e)
    (standing_next c.args.tree.now.rows c.args.rows.now c.unwrap-parent.result c.row_at-redirected.result c.row_at-next.result c.end_of-end.result c.in_ok-qs.qs.items
    c.requires.given c.requires.standing ic c.unwrap-parent.ensures c.row_at-redirected.ensures c.end_of-end.ensures (subst R c.requires.next c.in_ok-qs.ensures))

pub returns-clause-longer : goal.returns-clause-longer
returns-clause-longer g c = grind (arith, grown_length)

pub returns-clause-rules : goal.returns-clause-rules
returns-clause-rules g c = ap (λ (t : Tree). t.rules) c.finish.ensures

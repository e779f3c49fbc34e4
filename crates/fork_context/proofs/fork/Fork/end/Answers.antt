use Rattle.fork_context.proofs.Common.{arith, refl, ◌++◌, ◌||◌, [], Some, map, ap, ◌∙◌, sym, subst, List, length-append, length-map, length-state, end_of, waiting_row, Row, Table, Ended, with_state, Tree, RowExtras, with_row_extras, IsFork, kind_of}
use Rattle.fork_context.proofs.Common.{common_steps}
use Rattle.std.proofs.Common.{Result, OnErr}
use Rattle.fork_context.proofs.Applied.{has_room}
use Rattle.fork_context.proofs.RowsWithExtras.{length-with_extras}
use Rattle.fork_context.proofs.ForkRows.{table_of}
use Rattle.fork_context.proofs.ForkEnd.{ended_rows, fork_ended, fork_same, ending}
use Rattle.fork_context.proofs.fork.Fork.end.Goals as goal

on_err : {T E P : Type 0} (r : Result T E) → P → OnErr r P
on_err r p = grind arith

pub append-requires : goal.append-requires
append-requires g c =
    let is = ending _ _ c.self.inside.extras c.self.inside.tree _ c.args.n _ c.self.invariant c.self.view_is c.requires.open_yet in
    record { few = omega (arith, is.sizes, c.self.invariant.each, c.requires.each, c.requires.few) }

pub store-requires : goal.store-requires
store-requires g c =
    let is = ending _ _ c.self.inside.extras c.self.inside.tree _ c.args.n _ c.self.invariant c.self.view_is c.requires.open_yet in
    grind (arith, common_steps, length-append)

pub end-requires-clause-there : goal.end-requires-clause-there
end-requires-clause-there g c =
    let is = ending _ _ c.self.inside.extras c.self.inside.tree _ c.args.n _ c.self.invariant c.self.view_is c.requires.open_yet in
    is.passes

pub end-requires-clause-next : goal.end-requires-clause-next
end-requires-clause-next g c =
    let is = ending _ _ c.self.inside.extras c.self.inside.tree _ c.args.n _ c.self.invariant c.self.view_is c.requires.open_yet in
    c.requires.first ∙ is.sizes

pub invariant_of-self-2 : goal.invariant_of-self-2
invariant_of-self-2 g c =
    let is = ending _ _ c.self.inside.extras c.self.inside.tree _ c.args.n _ c.self.invariant c.self.view_is c.requires.open_yet in
    fork_same _ _ _ _ _ _ (ap (λ (t : Tree). t.rows) c.end.ensures)
    (c.store.ensures ∙ ap (λ (bs : List RowExtras). with_row_extras bs c.args.n c.args.stored.0.items c.args.stored.1.items) c.in_ok-append.ensures.ok)
    c.succeeds-succeeded.ensures
    (fork_ended c.self.inside.tree.rows c.self.inside.extras c.args.below.1.items c.self.inside.succeeded c.args.n c.args.end c.args.stored.0.items
    c.args.stored.1.items c.args.below.0.new_rows c.self.invariant is.passes c.requires.each (omega (arith, is.sizes, c.requires.few)) is.within)

pub returns-clause-ok : goal.returns-clause-ok
returns-clause-ok g c =
    let is = ending _ _ c.self.inside.extras c.self.inside.tree _ c.args.n _ c.self.invariant c.self.view_is c.requires.open_yet in
    let left = c.args.stored.0.items in
    let challenges = c.args.stored.1.items in
    let more : List Row = map (waiting_row (Some c.args.n)) c.args.below.0.new_rows in
    let ended : List Row = with_state c.self.inside.tree.rows c.args.n (Ended (end_of c.args.end [] [])) ++ more in
    let closed = c.self.inside.closed || c.args.closes in
    let with_rows : List Row → Table = λ (rows : List Row). record { kind = kind_of c.self.inside.kind; rules = c.self.inside.tree.rules; closed = closed; rows = rows } in
    grind (arith, common_steps, table_of, ended_rows)

pub invariant_of-self : goal.invariant_of-self
invariant_of-self g c =
    subst (λ (bs : List RowExtras). IsFork c.self.inside.tree.rows bs c.self.inside.succeeded) (sym c.in_err-append.ensures.err) c.self.invariant

pub returns-in_err-append-clause-err : goal.returns-in_err-append-clause-err
returns-in_err-append-clause-err g c = grind arith

pub returns-clause-room : goal.returns-clause-room
returns-clause-room g c = grind (arith, common_steps, ending, length-with_extras, length-append, length-state, length-map, has_room)

pub same-self : goal.same-self
same-self g c = refl

use Rattle.call_state.proofs.Common.{◌<◌, ◌≡◌, Branch, Call, IsSized, Server, closing_of, length, subst, sym}
use Rattle.call_state.specs.declared.state.CallState.TheInside.{Inside}
use Rattle.call_branch.specs.BranchInside.{changed_branch, kept}
use Rattle.call_state.proofs.Changing.{branches_changed, call_of, changed_at, unchanged_at}
use Rattle.call_state.proofs.Sizes.{sized_changed}
use Rattle.call_state.proofs.state.CallState.keep_branch.Goals as goal
use Rattle.call_state.proofs.state.CallState.keep_branch.Goals.{in-Some, in_default+in-Some-1, in_default+in-None-1}

pub invariant_of-self : goal.invariant_of-self
invariant_of-self g c =
    let f : Branch → Branch = kept c.args.timer_c_at c.args.answer in
    let old = c.self.inside in
    let lt : c.args.n < length old.branches.items = subst (λ (x : Call). c.args.n < length x.branches) (sym c.self.view_is) c.requires.there in
    let P : Inside g.row.A.Denot → Type 0 = λ i. IsSized i.book i.destinations.items i.branches.items in
    elim c.match-index_mut.branch [
      | in-Some w ↦ subst P (sym w.self-inside-is) (sized_changed f old.book old.destinations.items old.branches.items _ c.args.n c.self.invariant (changed_at f old.branches.items c.args.n c.index_mut.result.now lt c.index_mut.ensures.value _ _ w.in-Some.is w.keep.ensures))
      | in_default+in-Some-1 w ↦ subst P (sym w.self-inside-is) (sized_changed f old.book old.destinations.items old.branches.items _ c.args.n c.self.invariant (unchanged_at f old.branches.items c.args.n c.index_mut.result.now lt c.index_mut.ensures.value w.in_default.is))
      | in_default+in-None-1 w ↦ subst P (sym w.self-inside-is) (sized_changed f old.book old.destinations.items old.branches.items _ c.args.n c.self.invariant (unchanged_at f old.branches.items c.args.n c.index_mut.result.now lt c.index_mut.ensures.value w.in_default.is))
    ]

pub returns : goal.returns
returns g c =
    let f : Branch → Branch = kept c.args.timer_c_at c.args.answer in
    let old = c.self.inside in
    let server : Server = record { machine = old.served; owed = old.owed.items; last = old.last.items } in
    let lt : c.args.n < length old.branches.items = subst (λ (x : Call). c.args.n < length x.branches) (sym c.self.view_is) c.requires.there in
    let P : Inside g.row.A.Denot → Type 0 = λ i. call_of i.opened i.book (closing_of i.closing) i.destinations.items i.branches.items (record { machine = i.served; owed = i.owed.items; last = i.last.items }) ≡ record c.args.self.now { branches = changed_branch f c.args.self.now.branches c.args.n } in
    elim c.match-index_mut.branch [
      | in-Some w ↦ subst P (sym w.self-inside-is) (branches_changed f old.opened old.book (closing_of old.closing) old.destinations.items old.branches.items _ server c.args.self.now c.args.n c.self.view_is (changed_at f old.branches.items c.args.n c.index_mut.result.now lt c.index_mut.ensures.value _ _ w.in-Some.is w.keep.ensures))
      | in_default+in-Some-1 w ↦ subst P (sym w.self-inside-is) (branches_changed f old.opened old.book (closing_of old.closing) old.destinations.items old.branches.items _ server c.args.self.now c.args.n c.self.view_is (unchanged_at f old.branches.items c.args.n c.index_mut.result.now lt c.index_mut.ensures.value w.in_default.is))
      | in_default+in-None-1 w ↦ subst P (sym w.self-inside-is) (branches_changed f old.opened old.book (closing_of old.closing) old.destinations.items old.branches.items _ server c.args.self.now c.args.n c.self.view_is (unchanged_at f old.branches.items c.args.n c.index_mut.result.now lt c.index_mut.ensures.value w.in_default.is))
    ]

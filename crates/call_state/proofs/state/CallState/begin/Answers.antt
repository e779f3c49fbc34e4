use Rattle.call_state.proofs.Common.{◌≡◌, ◌∙◌, ap, length, Core, Hop, Kind, kind_of, reliability_of, table_of, no_branches, first_owed, served_start}
use Rattle.call_state.proofs.Beginning.{begun_is}
use Rattle.call_branch.proofs.laws.BranchLists.{length_no_branches, no_branches_of}
use Rattle.call_state.proofs.state.CallState.begin.Goals as goal

pub invariant_of-result : goal.invariant_of-result
invariant_of-result g c =
    let count : c.count.result ≡ length (table_of c.args.book).rows = c.count.ensures.value ∙ ap (λ (x : Core). length x.table.rows) c.context.ensures.stands in
    record { each_destination = c.requires.destinations; each_branch = ap length c.in_ok-branches.ensures ∙ length_no_branches c.count.result ∙ count }

pub returns : goal.returns
returns g c =
    let count : c.count.result ≡ length (table_of c.args.book).rows = c.count.ensures.value ∙ ap (λ (x : Core). length x.table.rows) c.context.ensures.stands in
    begun_is c.args.opened c.args.book c.args.destinations.items c.in_ok-branches.branches.items c.start-served.result c.in_ok-owed.owed.items c.new-last.result.items
    (c.in_ok-branches.ensures ∙ ap no_branches count ∙ no_branches_of (table_of c.args.book).rows)
    (c.start-served.ensures ∙ ap (λ (k : Kind). served_start k (reliability_of c.caller.result.transport)) c.kind-2.ensures
    ∙ ap (λ (h : Hop). served_start (kind_of c.args.opened) (reliability_of h.transport)) c.caller.ensures)
    (c.in_ok-owed.ensures ∙ ap first_owed c.kind.ensures)
    c.new-last.ensures.items

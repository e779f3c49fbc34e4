use Rattle.call_state.proofs.Common.{◌≡◌, ◌∙◌, ap, List, ◌<◌, sym, subst, arith, length, Some, slice_get, table_of, Destination, Call, closing_of, rows_of}
use Rattle.fork_rank.specs.KindView as kinds
use Rattle.call_state.proofs.Sends.{request_sent}
use Rattle.call_state.proofs.Sizes.{sized_branch}
use Rattle.call_state.proofs.state.CallState.send_request.Goals as goal

pub destination_at-destination-requires : goal.destination_at-destination-requires
destination_at-destination-requires g c =
    let P : Call → Type 0 = λ x. c.args.n < length (rows_of x) in
    let there : c.args.n < length (table_of c.self.inside.book).rows = subst P (sym c.self.view_is) c.requires.there in
    let same : length c.deref.result.now ≡ length c.self.inside.destinations.items = ap length c.deref.ensures.value in
    omega (arith, c.self.invariant.each_destination)

pub invariant_of-self : goal.invariant_of-self
invariant_of-self g c = sized_branch c.self.inside.book c.self.inside.destinations.items c.self.inside.branches.items c.put_branch.new.branches.items c.args.n c.start-branch.result c.self.invariant c.put_branch.ensures

pub returns-clause-ok : goal.returns-clause-ok
returns-clause-ok g c =
    let P : List Destination → Type 0 = λ ws. slice_get ws c.args.n ≡ Some c.destination_at-destination.result.now in
    let copied : c.in_ok-sent.sent.items ≡ c.in_ok-bytes.bytes.items = c.in_ok-sent.ensures.items ∙ c.deref-2.ensures.value in
    request_sent c.self.inside.opened c.self.inside.book (closing_of c.self.inside.closing) c.self.inside.destinations.items c.self.inside.branches.items c.put_branch.new.branches.items
    (record { machine = c.self.inside.served; owed = c.self.inside.owed.items; last = c.self.inside.last.items }) c.args.self.now
    c.args.n c.args.now c.destination_at-destination.result.now c.hop-to.result c.in_ok-bytes.bytes.items c.in_ok-sent.sent.items (kinds.kind_of c.kind.result) c.start-branch.result
    c.self.view_is (subst P c.deref.ensures.value c.destination_at-destination.ensures) c.hop-to.ensures (sym copied) (copied ∙ c.in_ok-bytes.ensures) c.kind.ensures c.start-branch.ensures c.put_branch.ensures

use Rattle.call_branch.proofs.Common.{◌∙◌, ◌++◌, ap, List, ℕ, Own, Uri, spelling, BranchName, forwarded, over, OpenedRequest, branch_at}
use Rattle.std.proofs.Common.{Option}
use Rattle.std.specs.Option.{option_copied}
use Rattle.sip_uri.specs.declared.hop.Hop.{Hop}
use Rattle.call_model.specs.OpenedRequest.{recorded_to}
use Rattle.call_branch.proofs.opened.OpenedRequest.request_bytes.Goals as goal

pub returns : goal.returns
returns g c =
    let opened = c.args.self.now in
    let recorded = recorded_to opened c.args.destination.now.hop.transport in
    let own = over opened.own c.args.destination.now.hop.transport in
    let text = spelling (forwarded c.self.inside.opening.request c.uri.result.now c.own_to.result c.branch-branch.result (option_copied c.recorded_to.result)) in
    c.in_ok-write_forwarded.ensures.ok
    ∙ ap (λ (xs : List ℕ). xs ++ text) c.new-bytes.ensures.items
    ∙ ap (λ (u : Uri). spelling (forwarded c.self.inside.opening.request u c.own_to.result c.branch-branch.result (option_copied c.recorded_to.result))) c.uri.ensures
    ∙ ap (λ (o : Own). spelling (forwarded c.self.inside.opening.request c.args.destination.now.uri o c.branch-branch.result (option_copied c.recorded_to.result))) c.own_to.ensures
    ∙ ap (λ (b : BranchName). spelling (forwarded c.self.inside.opening.request c.args.destination.now.uri own b (option_copied c.recorded_to.result))) c.branch-branch.ensures
    ∙ ap (λ (v : Option (List ℕ)). spelling (forwarded c.self.inside.opening.request c.args.destination.now.uri own (branch_at opened c.args.n) v)) (c.recorded_to.ensures.value ∙ ap (λ (h : Hop). recorded_to opened h.transport) c.hop.ensures)
    ∙ ap (λ (f : OpenedRequest). spelling (forwarded f.request c.args.destination.now.uri own (branch_at opened c.args.n) recorded)) c.self.view_is

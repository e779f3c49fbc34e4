use Rattle.call_branch.proofs.Common.{◌∙◌, ◌++◌, ap, List, ℕ, Own, Uri, spelling, BranchName, forwarded, over, OpenedRequest, branch_at}
use Rattle.sip_build.specs.Requests.{ack_of}
use Rattle.call_model.specs.OpenedRequest.{recorded_to}
use Rattle.call_branch.proofs.opened.OpenedRequest.ack_bytes.Goals as goal

pub returns : goal.returns
returns g c =
    let opened = c.args.self.now in
    let recorded = recorded_to opened c.args.destination.now.hop.transport in
    let own = over opened.own c.args.destination.now.hop.transport in
    let text = spelling (ack_of (forwarded c.self.inside.opening.request c.uri.result.now c.own_to.result c.branch-branch.result recorded) c.args.response.now) in
    c.in_ok-write_forwarded_ack.ensures.ok recorded
    ∙ ap (λ (xs : List ℕ). xs ++ text) c.new-bytes.ensures.items
    ∙ ap (λ (u : Uri). spelling (ack_of (forwarded c.self.inside.opening.request u c.own_to.result c.branch-branch.result recorded) c.args.response.now)) c.uri.ensures
    ∙ ap (λ (o : Own). spelling (ack_of (forwarded c.self.inside.opening.request c.args.destination.now.uri o c.branch-branch.result recorded) c.args.response.now)) c.own_to.ensures
    ∙ ap (λ (b : BranchName). spelling (ack_of (forwarded c.self.inside.opening.request c.args.destination.now.uri own b recorded) c.args.response.now)) c.branch-branch.ensures
    ∙ ap (λ (f : OpenedRequest). spelling (ack_of (forwarded f.request c.args.destination.now.uri own (branch_at opened c.args.n) recorded) c.args.response.now)) c.self.view_is

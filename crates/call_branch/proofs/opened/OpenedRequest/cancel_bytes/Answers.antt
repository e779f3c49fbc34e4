use Rattle.call_branch.proofs.Common.{◌∙◌, ◌++◌, ap, List, ℕ, Own, Uri, spelling, BranchName, forwarded, over, OpenedRequest, branch_at}
use Rattle.sip_text.specs.Seen.{view_lines}
use Rattle.sip_build.specs.Requests.{cancel_of}
use Rattle.call_model.specs.OpenedRequest.{recorded_to}
use Rattle.call_branch.proofs.opened.OpenedRequest.cancel_bytes.Goals as goal

pub returns : goal.returns
returns g c =
    let opened = c.args.self.now in
    let reasons = view_lines c.args.reasons.now in
    let recorded = recorded_to opened c.args.destination.now.hop.transport in
    let own = over opened.own c.args.destination.now.hop.transport in
    let text = spelling (cancel_of (forwarded c.self.inside.opening.request c.uri.result.now c.own_to.result c.branch-branch.result recorded) reasons) in
    c.in_ok-write_forwarded_cancel.ensures.ok recorded
    ∙ ap (λ (xs : List ℕ). xs ++ text) c.new-bytes.ensures.items
    ∙ ap (λ (u : Uri). spelling (cancel_of (forwarded c.self.inside.opening.request u c.own_to.result c.branch-branch.result recorded) reasons)) c.uri.ensures
    ∙ ap (λ (o : Own). spelling (cancel_of (forwarded c.self.inside.opening.request c.args.destination.now.uri o c.branch-branch.result recorded) reasons)) c.own_to.ensures
    ∙ ap (λ (b : BranchName). spelling (cancel_of (forwarded c.self.inside.opening.request c.args.destination.now.uri own b recorded) reasons)) c.branch-branch.ensures
    ∙ ap (λ (f : OpenedRequest). spelling (cancel_of (forwarded f.request c.args.destination.now.uri own (branch_at opened c.args.n) recorded) reasons)) c.self.view_is

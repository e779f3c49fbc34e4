use Rattle.sip_build.proofs.Common.{◌≡◌, ◌∙◌, ◌++◌, ℕ, List, Option, ap, sym, codes, along_to, forwarded, view_lines}
use Rattle.sip_text.specs.Text.{spelling}
use Rattle.sip_build.specs.Requests.{cancel_of}
use Rattle.sip_build.proofs.Grown.{on_ok}
use Rattle.sip_build.proofs.HeaderRunTexts.{room-under}
use Rattle.sip_build.proofs.hop_by_hop.write_forwarded_cancel.Goals as goal

pub returns-clause-ok : goal.returns-clause-ok
returns-clause-ok g c =
    let m = c.args.message.now in
    let target = c.args.target.now in
    let branch = c.args.branch.now in
    let reasons = view_lines c.args.reasons.now in
    let same : (recorded : Option (List ℕ)) → spelling (along_to (codes "CANCEL") m target c.args.own branch c.first_value-to.result.now reasons) ≡ spelling (cancel_of (forwarded m target c.args.own branch recorded) reasons) =
    λ recorded. ap (λ (to : List ℕ). spelling (along_to (codes "CANCEL") m target c.args.own branch to reasons)) c.first_value-to.ensures ∙ ap spelling (sym (c.cancel_of_a_forwarded_request.ensures m target c.args.own branch recorded reasons c.requires.request c.fact_own.ensures c.fact_branch.ensures)) in
    on_ok c.append_to_same_hop.result (λ e recorded. e ∙ ap (λ (x : List ℕ). c.args.out.now.items ++ x) (same recorded)) c.append_to_same_hop.ensures.ok

pub returns-clause-room : goal.returns-clause-room
returns-clause-room g c recorded =
    let m = c.args.message.now in
    let target = c.args.target.now in
    let branch = c.args.branch.now in
    let reasons = view_lines c.args.reasons.now in
    let same : (recorded : Option (List ℕ)) → spelling (along_to (codes "CANCEL") m target c.args.own branch c.first_value-to.result.now reasons) ≡ spelling (cancel_of (forwarded m target c.args.own branch recorded) reasons) =
    λ recorded. ap (λ (to : List ℕ). spelling (along_to (codes "CANCEL") m target c.args.own branch to reasons)) c.first_value-to.ensures ∙ ap spelling (sym (c.cancel_of_a_forwarded_request.ensures m target c.args.own branch recorded reasons c.requires.request c.fact_own.ensures c.fact_branch.ensures)) in
    room-under c.append_to_same_hop.result _ _ _ _ c.append_to_same_hop.ensures.room (same recorded)

use Rattle.sip_build.proofs.Common.{◌∷◌, [], ◌++◌, ◌∙◌, List, ℕ, ap, branch_text}
use Rattle.sip_build.proofs.Pieces.{own_front, own_line, three}
use Rattle.sip_build.proofs.own_line.append_own_via.Goals as goal

pub returns-clause-ok : goal.returns-clause-ok
returns-clause-ok g c =
    three _ _ _ _ (own_front c.args.own) (branch_text c.args.branch.now) (13 ∷ 10 ∷ []) _
    (c.in_ok-extend_from_slice.ensures.items ∙ ap (λ (x : List ℕ). c.args.out.now.items ++ x) c.place_front-end.ensures.text)
    c.in_ok-write_branch.ensures.ok c.in_ok-extend_from_slice-2.ensures.items (own_line c.args.own c.args.branch.now)

use Rattle.sip_lex.proofs.Common.{ℕ, List, Option, ◌≡◌, ◌++◌, sym, subst, behind, Lacks}
use Rattle.sip_lex.proofs.laws.Cuts.{cut_joins, cut_lacks}
use Rattle.sip_lex.proofs.cut.cut_near.Goals as goal

pub returns-clause-whole : goal.returns-clause-whole
returns-clause-whole c =
    subst (λ (r : List ℕ × Option (List ℕ)). c.args.text.now ≡ r.0 ++ behind c.args.mark r.1) (sym c.cut_by_near_mark.ensures.value) (cut_joins c.args.mark c.args.text.now)

pub returns-clause-front : goal.returns-clause-front
returns-clause-front c =
    subst (λ (r : List ℕ × Option (List ℕ)). Lacks c.args.mark r.0) (sym c.cut_by_near_mark.ensures.value) (cut_lacks c.args.mark c.args.text.now)

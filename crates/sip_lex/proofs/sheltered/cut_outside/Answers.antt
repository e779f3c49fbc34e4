use Rattle.sip_lex.proofs.Common.{ℕ, List, Option, ◌≡◌, ◌++◌, sym, subst, Plain, behind, LacksOutside}
use Rattle.sip_lex.proofs.laws.Shelters.{cut_outside_joins, cut_outside_lacks, stands_outside}
use Rattle.sip_lex.proofs.sheltered.cut_outside.Goals as goal

pub returns-clause-whole : goal.returns-clause-whole
returns-clause-whole c =
    subst (λ (r : List ℕ × Option (List ℕ)). c.args.text.now ≡ r.0 ++ behind c.args.mark r.1) (sym c.split_outside.ensures.value) (cut_outside_joins c.args.shelter c.args.mark Plain c.args.text.now)

pub returns-clause-front : goal.returns-clause-front
returns-clause-front c =
    subst (λ (r : List ℕ × Option (List ℕ)). LacksOutside c.args.shelter c.args.mark Plain r.0) (sym c.split_outside.ensures.value) (cut_outside_lacks c.args.shelter c.args.mark Plain c.args.text.now)

pub returns-clause-outside : goal.returns-clause-outside
returns-clause-outside c = stands_outside c.args.shelter c.args.mark c.args.text.now c.split_outside.result c.split_outside.ensures.value

use Rattle.std.proofs.Common.{refl, ⊎_elim}
use Rattle.call_table.proofs.DeadlinesListed.{listed_pushed, listed_more}
use Rattle.call_table.proofs.deadlines.list.Goals as goal

pub returns-in-Ok-clause-listed : goal.returns-in-Ok-clause-listed
returns-in-Ok-clause-listed g c =
    let old = c.args.deadlines.now.entries in
    let new = c.set.new.deadlines.entries in ⊎_elim
    (λ set. listed_pushed _ _ _ old new c.args.number c.args.deadline c.in-Ok.ensures.permutation refl set c.requires.listed)
    (λ same. listed_more _ _ _ old new c.in-Ok.ensures.permutation same c.requires.listed)
    c.set.ensures.either

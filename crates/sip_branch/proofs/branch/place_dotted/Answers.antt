use Rattle.sip_branch.proofs.Common.{arith, length-decimal-le, common_steps}
use Rattle.std.proofs.lemmas.List.{drop-set}
use Rattle.sip_branch.proofs.branch.place_dotted.Goals as goal

pub write_digits-start-requires : goal.write_digits-start-requires
write_digits-start-requires c = (omega (arith, length-decimal-le 20 c.args.n (omega arith) (omega arith) c.ranges.n.fits), c.requires.1)

pub overflow_sub-start : goal.overflow_sub-start
overflow_sub-start c = omega (arith, length-decimal-le 20 c.args.n (omega arith) (omega arith) c.ranges.n.fits)

pub returns-clause-start : goal.returns-clause-start
returns-clause-start c =
    let long = length-decimal-le 20 c.args.n (omega arith) (omega arith) c.ranges.n.fits in
    (omega (arith, long), omega (arith, long))

pub returns-clause-text : goal.returns-clause-text
returns-clause-text c =
    let w = c.write_digits-start in
    let long = length-decimal-le 20 c.args.n (omega arith) (omega arith) c.ranges.n.fits in
    grind (arith, common_steps, drop-set)

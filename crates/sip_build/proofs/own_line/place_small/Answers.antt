use Rattle.sip_build.proofs.Common.{arith, sym, decimal_digit}
use Rattle.sip_via.proofs.laws.Digits.{three-digits, two-digits}
use Rattle.sip_build.proofs.Placed.{placed-as, placed-then}
use Rattle.sip_build.proofs.own_line.place_small.Goals as goal

pub returns-then-n-lt10-clause-placed : goal.returns-then-n-lt10-clause-placed
returns-then-n-lt10-clause-placed c = grind (arith, decimal_digit)

pub returns-then-n-lt100-clause-placed : goal.returns-then-n-lt100-clause-placed
returns-then-n-lt100-clause-placed c = grind (arith, two-digits)

pub returns-clause-placed : goal.returns-clause-placed
returns-clause-placed c =
    placed-as _ _ _ _ _ _ (placed-then _ _ _ _ _ _ _ _ c.place_two-at.ensures c.place_one-2.ensures)
    (sym (three-digits c.args.n (omega (arith, c.if-n-lt100.false)) (omega (arith, c.ranges.n.fits))))

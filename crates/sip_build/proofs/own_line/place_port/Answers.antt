use Rattle.sip_build.proofs.Common.{arith, sym}
use Rattle.sip_via.proofs.laws.Digits.{four-digits}
use Rattle.sip_build.proofs.Placed.{placed-as, placed-then}
use Rattle.sip_build.proofs.own_line.place_port.Goals as goal

pub returns-clause-placed : goal.returns-clause-placed
returns-clause-placed c =
    placed-as _ _ _ _ _ _ (placed-then _ _ _ _ _ _ _ _ c.place_two-at.ensures c.place_two.ensures)
    (sym (four-digits c.args.n (omega (arith, c.if-n-lt1000.false)) (omega (arith, c.if-n-gt9999.false))))

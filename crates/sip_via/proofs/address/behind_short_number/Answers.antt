use Rattle.sip_via.proofs.Common.{arith}
use Rattle.std.proofs.lemmas.Fmt.{decimal_digit}
use Rattle.sip_via.proofs.laws.Digits.{three-digits, two-digits}
use Rattle.sip_via.proofs.address.behind_short_number.Goals as goal

pub returns-then-n-lt10 : goal.returns-then-n-lt10
returns-then-n-lt10 c = grind (arith, decimal_digit)

pub returns-then-n-lt100 : goal.returns-then-n-lt100
returns-then-n-lt100 c = grind (arith, two-digits)

pub returns : goal.returns
returns c = grind (arith, three-digits)

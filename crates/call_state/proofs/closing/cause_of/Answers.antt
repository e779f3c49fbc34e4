use Rattle.call_state.proofs.Common.{arith}
use Rattle.call_state.proofs.Causes.{cause-good}
use Rattle.call_state.proofs.closing.cause_of.Goals as goal

pub returns-in_err-extend_from_slice-clause-good : goal.returns-in_err-extend_from_slice-clause-good
returns-in_err-extend_from_slice-clause-good g c = cause-good c.args.status (omega (arith, c.ranges.status))

pub returns-in_err-append_decimal-clause-good : goal.returns-in_err-append_decimal-clause-good
returns-in_err-append_decimal-clause-good g c = cause-good c.args.status (omega (arith, c.ranges.status))

pub returns-clause-good : goal.returns-clause-good
returns-clause-good g c = cause-good c.args.status (omega (arith, c.ranges.status))

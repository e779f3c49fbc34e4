use Rattle.sip_digest.proofs.Common.{arith, common_steps}
use Rattle.std.proofs.lemmas.Nat.{from_be_bytes-to_be_bytes_4}
use Rattle.sip_digest.proofs.Stamps.{long_enough, read_back}
use Rattle.sip_digest.proofs.stamp.read_second.Goals as goal

pub returns-then-text-lt-SECOND : goal.returns-then-text-lt-SECOND
returns-then-text-lt-SECOND c = λ second back fits e. absurd (omega (arith, long_enough c.args.text.now back second e))

pub returns-in_err-bytes : goal.returns-in_err-bytes
returns-in_err-bytes c = λ second back fits e. let r = read_back c.args.text.now back second fits e in grind (arith, common_steps)

pub returns : goal.returns
returns c = λ second back fits e. let r = read_back c.args.text.now back second fits e in grind (arith, common_steps, from_be_bytes-to_be_bytes_4 second fits)

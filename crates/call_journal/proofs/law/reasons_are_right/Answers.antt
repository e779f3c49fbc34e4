use Rattle.call_journal.proofs.Apart.{right}
use Rattle.call_journal.proofs.law.reasons_are_right.Goals as goal

pub returns : goal.returns
returns c = right

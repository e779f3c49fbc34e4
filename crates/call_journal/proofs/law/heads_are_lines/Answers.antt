use Rattle.call_journal.proofs.HeadLines.{head_lacks}
use Rattle.call_journal.proofs.law.heads_are_lines.Goals as goal

pub returns : goal.returns
returns c = head_lacks

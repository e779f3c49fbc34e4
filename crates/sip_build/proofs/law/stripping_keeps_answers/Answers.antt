use Rattle.sip_build.proofs.StrippedSame.{stripped-same}
use Rattle.sip_build.proofs.law.stripping_keeps_answers.Goals as goal

pub returns : goal.returns
returns c = stripped-same

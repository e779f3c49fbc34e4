use Rattle.sip_build.proofs.StrippedSame.{stripped-timestamps}
use Rattle.sip_build.proofs.law.stripping_keeps_timestamps.Goals as goal

pub returns : goal.returns
returns c = stripped-timestamps

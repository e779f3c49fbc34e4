use Rattle.sip_via.proofs.ViaWalk.{next_value}
use Rattle.sip_via.proofs.values.cut_value.Goals as goal

pub returns : goal.returns
returns c = next_value c.args.text.now c.cut_outside.result c.trim.result.now c.cut_outside.ensures.value c.trim.ensures

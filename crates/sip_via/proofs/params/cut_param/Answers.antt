use Rattle.sip_via.proofs.ViaWalk.{next_param}
use Rattle.sip_via.proofs.params.cut_param.Goals as goal

pub returns : goal.returns
returns c = next_param c.args.text.now c.cut_outside.result c.cut_outside.ensures.value

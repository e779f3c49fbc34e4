use Rattle.authentication.proofs.laws.Pieces.{next_part}
use Rattle.authentication.proofs.tail.cut_param.Goals as goal

pub returns : goal.returns
returns c = next_part 59 c.args.text.now c.cut_at.result c.cut_at.ensures.value

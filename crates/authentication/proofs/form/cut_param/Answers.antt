use Rattle.authentication.proofs.laws.Pieces.{next_piece}
use Rattle.authentication.proofs.form.cut_param.Goals as goal

pub returns : goal.returns
returns c = next_piece 59 c.args.text.now c.cut_outside.result c.cut_outside.ensures.value

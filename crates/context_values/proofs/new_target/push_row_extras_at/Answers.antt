use Rattle.context_values.proofs.Common.{append-nil, slice_get_past, common_steps, arith}
use Rattle.context_values.proofs.new_target.push_row_extras_at.Goals as goal

pub returns-in-None : goal.returns-in-None
returns-in-None g c = grind (arith, common_steps, slice_get_past, append-nil)

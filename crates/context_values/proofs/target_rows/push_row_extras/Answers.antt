use Rattle.context_values.proofs.Common.{append-nil, slice_get_past, common_steps, arith}
use Rattle.context_values.proofs.target_rows.push_row_extras.Goals as goal

pub returns-in-None : goal.returns-in-None
returns-in-None g c = grind (arith, common_steps, slice_get_past, append-nil)

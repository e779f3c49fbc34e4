use Rattle.context_values.proofs.Common.{add-one, common_steps, arith}
use Rattle.context_values.proofs.ByKeySteps.{by_key_more, in_ok}
use Rattle.context_values.proofs.extras_table.insert_number.Goals as goal

pub returns-clause-more : goal.returns-clause-more
returns-clause-more g c = grind (arith, common_steps, in_ok, add-one, by_key_more)

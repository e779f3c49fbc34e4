use Rattle.fork_model.proofs.Common.{arith, rules}
use Rattle.fork_model.proofs.OneFinalLemmas.{one_final, no_final_before, no_final_beside_success}
use Rattle.fork_model.proofs.OpeningLemmas.{opening_is_unfinished}
use Rattle.fork_model.proofs.headline.exactly_one_final.Goals as goal

pub returns-clause-exactly_one : goal.returns-clause-exactly_one
returns-clause-exactly_one c kind rules targets events replies some are done succ = search (rules, one_final, opening_is_unfinished)

pub returns-clause-none_before : goal.returns-clause-none_before
returns-clause-none_before c kind rules targets events replies are f = grind (arith, no_final_before)

pub returns-clause-none_beside_success : goal.returns-clause-none_beside_success
returns-clause-none_beside_success c kind rules targets events replies are succ = grind (arith, no_final_beside_success)

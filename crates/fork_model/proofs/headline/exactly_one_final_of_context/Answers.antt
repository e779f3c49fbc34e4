use Rattle.fork_model.proofs.ContextLemmas.{stands_by_its_history, are_replies, one_final_of_context, no_final_before_of_context, no_final_beside_success_of_context, rows_of_context_stay, nothing_final_follows_of_context}
use Rattle.fork_model.proofs.headline.exactly_one_final_of_context.Goals as goal

pub returns-clause-stands_by_history : goal.returns-clause-stands_by_history
returns-clause-stands_by_history c = stands_by_its_history

pub returns-clause-replies : goal.returns-clause-replies
returns-clause-replies c = are_replies

pub returns-clause-exactly_one : goal.returns-clause-exactly_one
returns-clause-exactly_one c = one_final_of_context

pub returns-clause-none_before : goal.returns-clause-none_before
returns-clause-none_before c = no_final_before_of_context

pub returns-clause-none_beside_success : goal.returns-clause-none_beside_success
returns-clause-none_beside_success c = no_final_beside_success_of_context

pub returns-clause-rows_stay : goal.returns-clause-rows_stay
returns-clause-rows_stay c = rows_of_context_stay

pub returns-clause-none_follows : goal.returns-clause-none_follows
returns-clause-none_follows c = nothing_final_follows_of_context

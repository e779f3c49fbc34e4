-- What the proofs of the crates above may cite: the order of answers, and that a context answers exactly one final answer.
pub use Rattle.fork_model.proofs.laws.OrderLemmas.{Before-total}
pub use Rattle.fork_model.proofs.laws.Arrivals.{history_of_arrivals}
pub use Rattle.fork_model.proofs.ContextLemmas.{stands_by_its_history, one_final_of_context}
pub use Rattle.fork_model.proofs.laws.StepLemmas.{rows_always_keep_numbers}
pub use Rattle.fork_model.proofs.laws.OneReplyLemmas.{one_choice}
pub use Rattle.fork_model.proofs.OneOutcome.{one_history}

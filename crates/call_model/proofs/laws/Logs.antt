-- What the proofs of the crates above may cite: the table of a log with one more event.
pub use Rattle.call_model.proofs.laws.SoundTables.{table_added}

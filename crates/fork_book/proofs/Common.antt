-- The names that most proofs of this crate cite, passed on from one place. Declares nothing.
pub use Rattle.std.proofs.Common.{List, Some, [], ap, arith, length, refl, rules, slice_get, subst, suc, ℕ, ◌++◌, ◌+◌, ◌∙◌, ◌∷◌, ◌≡◌, ◌≢◌, ◌≤◌}
pub use Rattle.std.proofs.lemmas.Grind.{common_steps}
pub use Rattle.fork_model.specs.Core.{core_next}
pub use Rattle.fork_model.specs.Event.{Event}
pub use Rattle.fork_model.specs.History.{AreReplies, Target, after, opening}
pub use Rattle.fork_model.specs.Reply.{IsReply, Reply}
pub use Rattle.fork_model.specs.Step.{next}
pub use Rattle.fork_model.specs.Table.{Kind, Rules, Table}
pub use Rattle.fork_model.specs.Log.{Posted, events_of}
pub use Rattle.fork_book.specs.Opened.{opening_of}

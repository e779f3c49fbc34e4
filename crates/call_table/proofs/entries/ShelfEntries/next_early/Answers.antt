use Rattle.call_table.proofs.Walking.{first_is_next, none_is_next}
use Rattle.call_table.proofs.entries.ShelfEntries.next_early.Goals as goal

pub returns-in-Some : goal.returns-in-Some
returns-in-Some g c = first_is_next c.args.self.now.early _ _ _ _ _ (c.range.ensures.in_range tt) c.in-Some.ensures.steps

pub returns-in-None : goal.returns-in-None
returns-in-None g c = none_is_next c.args.self.now.early _ _ _ (c.range.ensures.in_range tt) c.in-None.ensures.steps.0

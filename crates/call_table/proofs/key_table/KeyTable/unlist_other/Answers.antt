use Rattle.call_table.proofs.Listing.{other_unlisted}
use Rattle.call_table.proofs.key_table.KeyTable.unlist_other.Goals as goal

pub returns-in-Some-clause-kept : goal.returns-in-Some-clause-kept
returns-in-Some-clause-kept g c = other_unlisted c.args.self.now.others c.remove_entry.new.self c.args.key.now c.remove_entry.ensures.entries

pub returns-in-None-clause-kept : goal.returns-in-None-clause-kept
returns-in-None-clause-kept g c = other_unlisted c.args.self.now.others c.remove_entry.new.self c.args.key.now c.remove_entry.ensures.entries

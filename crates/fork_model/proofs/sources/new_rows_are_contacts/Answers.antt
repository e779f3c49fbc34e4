use Rattle.fork_model.proofs.SourceLemmas.{adds_no_row, new_rows_are_contacts}
use Rattle.fork_model.proofs.sources.new_rows_are_contacts.Goals as goal

pub returns-clause-none : goal.returns-clause-none
returns-clause-none c = adds_no_row

pub returns-clause-each : goal.returns-clause-each
returns-clause-each c = new_rows_are_contacts

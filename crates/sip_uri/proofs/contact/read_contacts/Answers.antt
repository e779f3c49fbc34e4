use Rattle.sip_uri.proofs.Common.{view_contacts}
use Rattle.sip_uri.proofs.Listed.{contacts_found, items_found, only_contacts, values_found}
use Rattle.sip_uri.proofs.contact.read_contacts.Goals as goal

pub returns-clause-items : goal.returns-clause-items
returns-clause-items g c = items_found (λ cs. view_contacts cs.items) c.args.value.now c.read_all.result c.read_all.ensures.read

pub returns-clause-contacts : goal.returns-clause-contacts
returns-clause-contacts g c = contacts_found (λ cs. view_contacts cs.items) c.args.value.now c.read_all.result c.read_all.ensures.read

pub returns-clause-only : goal.returns-clause-only
returns-clause-only g c = only_contacts (λ cs. view_contacts cs.items) c.args.value.now c.read_all.result c.read_all.ensures.read

pub returns-clause-values : goal.returns-clause-values
returns-clause-values g c = values_found (λ cs. view_contacts cs.items) c.args.value.now c.read_all.result c.read_all.ensures.read

-- What becomes of a contact, as the definitions name it.
use Rattle.std.specs.Prelude.{[], unwrap_or}
use Rattle.fork_model.specs.Table.{Offer}
use Rattle.fork_model.specs.Contacts as spec
use Rattle.fork_context.specs.declared.contacts.ContactOutcome.{ContactOutcome}
use Rattle.fork_context.specs.declared.contacts.ContactOutcome.TheVariants as outcome

abbrev pub outcome_at : ContactOutcome → Offer → spec.ContactOutcome
outcome_at outcome.Known offer = spec.Known
outcome_at outcome.Fresh offer = spec.Fresh (unwrap_or offer.key [])
outcome_at outcome.Left offer = spec.Left

use Rattle.registrar.proofs.Outcomes.{changed_by, repeated_by}
use Rattle.registrar.proofs.law.changes_are_of_the_request.Goals as goal

pub returns-clause-changed : goal.returns-clause-changed
returns-clause-changed c = λ registration others most old new h. changed_by registration others most old new h

pub returns-clause-repeated : goal.returns-clause-repeated
returns-clause-repeated c = λ registration others most old h. repeated_by registration others most old h

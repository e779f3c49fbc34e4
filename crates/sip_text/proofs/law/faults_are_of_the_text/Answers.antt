use Rattle.sip_text.proofs.Refusals.{refused_again, refused_found}
use Rattle.sip_text.proofs.law.faults_are_of_the_text.Goals as goal

pub returns-clause-found : goal.returns-clause-found
returns-clause-found c = refused_found

pub returns-clause-only : goal.returns-clause-only
returns-clause-only c = refused_again

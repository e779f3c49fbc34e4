use Rattle.service_admission.proofs.Rates.{bounded}
use Rattle.service_admission.proofs.law.no_address_exceeds_its_rate.Goals as goal

pub returns : goal.returns
returns c = bounded

use Rattle.service_admission.proofs.Running.{no_run_exceeds}
use Rattle.service_admission.proofs.law.no_run_exceeds_its_rate.Goals as goal

pub returns : goal.returns
returns c l first last address looks are all = no_run_exceeds l first last address looks are all

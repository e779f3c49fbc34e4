use Rattle.service_users.proofs.serving.ServedAtAdmission.decides.Goals as goal

pub returns : goal.returns
returns g c = (_, c.in_ok-decision.ensures)

use Rattle.service_config.specs.ServiceForm.{service_form_of}
use Rattle.proxy_config.proofs.laws.TextLines.{form_found, form_missing}
use Rattle.service_config.proofs.service_form.service_form_at.Goals as goal

pub returns-clause-found : goal.returns-clause-found
returns-clause-found c = form_found service_form_of c.args.text.now c.args.number c.service_form_by_number.result c.service_form_by_number.ensures

pub returns-clause-missing : goal.returns-clause-missing
returns-clause-missing c = form_missing service_form_of c.args.text.now c.args.number c.service_form_by_number.result c.service_form_by_number.ensures

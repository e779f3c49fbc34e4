use Rattle.proxy_config.specs.Form.{form_of}
use Rattle.proxy_config.proofs.laws.TextLines.{form_found, form_missing}
use Rattle.proxy_config.proofs.form.form_at.Goals as goal

pub returns-clause-found : goal.returns-clause-found
returns-clause-found c = form_found form_of c.args.text.now c.args.number c.form_by_number.result c.form_by_number.ensures

pub returns-clause-missing : goal.returns-clause-missing
returns-clause-missing c = form_missing form_of c.args.text.now c.args.number c.form_by_number.result c.form_by_number.ensures

use Rattle.service_config.proofs.Common.{sym, ◌∙◌}
use Rattle.service_config.proofs.Plain.{plain_is_line}
use Rattle.service_config.proofs.line.read_line.Goals as goal

pub returns : goal.returns
returns c = c.read_plain.ensures ∙ sym (plain_is_line c.args.text.now c.requires)

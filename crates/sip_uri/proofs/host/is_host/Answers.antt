use Rattle.sip_uri.proofs.Common.{◌∙◌, sym}
use Rattle.sip_uri.proofs.laws.Hosts.{IsHost-is_host, is_host-IsHost}
use Rattle.sip_uri.proofs.host.is_host.Goals as goal

pub returns-clause-meaning : goal.returns-clause-meaning
returns-clause-meaning c = (λ h. is_host-IsHost c.args.text.now (sym c.has_host_form.ensures ∙ h), λ h. c.has_host_form.ensures ∙ IsHost-is_host c.args.text.now h)

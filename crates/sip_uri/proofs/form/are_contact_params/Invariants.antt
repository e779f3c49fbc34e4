use Rattle.sip_uri.proofs.Common.{◌≡◌, list_all, contact_params, is_contact_param, option_copied}
use Rattle.sip_uri.proofs.Keys.{size}
use Rattle.sip_uri.proofs.form.are_contact_params.Given as goal

abbrev pub invariant-loop-rest : goal.invariant-loop-rest
invariant-loop-rest l = list_all is_contact_param (contact_params (option_copied l.rest)) ≡ list_all is_contact_param (contact_params (option_copied l.params))

abbrev pub decreases-loop-rest : goal.decreases-loop-rest
decreases-loop-rest l = size (option_copied l.rest)

use Rattle.sip_uri.proofs.Common.{◌≡◌, contact_params, q_of, option_copied}
use Rattle.sip_uri.proofs.Keys.{size}
use Rattle.sip_uri.proofs.form.q_of.Given as goal

abbrev pub invariant-loop-rest : goal.invariant-loop-rest
invariant-loop-rest l = q_of (contact_params (option_copied l.rest)) ≡ q_of (contact_params (option_copied l.params))

abbrev pub decreases-loop-rest : goal.decreases-loop-rest
decreases-loop-rest l = size (option_copied l.rest)

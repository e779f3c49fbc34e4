use Rattle.context_values.proofs.Common.{◌≡◌, take, contact_qs}
use Rattle.context_values.proofs.new_target.contact_qs.Given as goal

abbrev pub invariant-loop-contact : goal.invariant-loop-contact
invariant-loop-contact g l = l.qs.items ≡ contact_qs (take l.contact-index l.fresh)

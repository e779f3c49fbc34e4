use Rattle.sip_uri.proofs.Common.{◌≡◌, Some, option_copied, are_items, items_behind}
use Rattle.sip_uri.proofs.Keys.{size}
use Rattle.sip_uri.proofs.contact.are_items.Given as goal

abbrev pub invariant-loop-rest : goal.invariant-loop-rest
invariant-loop-rest l = are_items (items_behind (option_copied l.rest)) ≡ are_items (items_behind (Some l.value))

abbrev pub decreases-loop-rest : goal.decreases-loop-rest
decreases-loop-rest l = size (option_copied l.rest)

use Rattle.std.proofs.Common.{◌≡◌, drop}
use Rattle.registrar.specs.Contacts.{all_asked}
use Rattle.registrar.specs.SeenContacts.{view_items}
use Rattle.registrar.specs.SeenTerms.{seen_terms}
use Rattle.registrar.proofs.ContactLists.{in_front}
use Rattle.registrar.proofs.contacts.all_asked.Given as goal

abbrev pub invariant-loop-item : goal.invariant-loop-item
invariant-loop-item g l =
    in_front l.all.items (all_asked (seen_terms l.terms) (drop l.item-index (view_items l.items))) ≡ all_asked (seen_terms l.terms) (view_items l.items)

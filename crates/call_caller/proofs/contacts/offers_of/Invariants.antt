use Rattle.call_caller.proofs.Common.{◌≡◌, ◌++◌, length, map, into_iter_items, view_contacts, destination_of_contact, contact_for, offer_of}
use Rattle.std.specs.Vec.Iter.{into_iter_len}
use Rattle.call_caller.proofs.contacts.offers_of.Given as goal

abbrev pub invariant-loop-contact : goal.invariant-loop-contact
invariant-loop-contact g l = record {
  offers : l.made.offers.items ≡ map offer_of (map (contact_for l.opened.tried) (view_contacts l.yielded));
  destinations : l.made.destinations.items ≡ map (destination_of_contact l.opened) (map (contact_for l.opened.tried) (view_contacts l.yielded));
  rest : l.fn.contacts.items ≡ l.yielded ++ into_iter_items l.contact-iterator;
  len : into_iter_len l.contact-iterator ≡ length (into_iter_items l.contact-iterator);
}

-- Contacts in memory, as lists.
use Rattle.std.specs.Prelude.{List, map}
use Rattle.sip_uri.specs.declared.contact.Contact.{Contact}
use Rattle.sip_uri.specs.Contact.{ContactText}

abbrev pub view_contact : {A : Type 0} → Contact A → ContactText
view_contact c = record { text = c.text.items; q = c.q; uri = c.uri }

abbrev pub view_contacts : {A : Type 0} → List (Contact A) → List ContactText
view_contacts cs = map view_contact cs

-- What a call is given, as texts.
use Rattle.std.specs.Prelude.{List, map}
use Rattle.std.specs.Option.{option_copied}
use Rattle.bindings.specs.declared.contact.ContactParts.{ContactParts}
use Rattle.bindings.specs.declared.request.MadeBy.{MadeBy}
use Rattle.bindings.specs.declared.request.RegisterContact.{RegisterContact}
use Rattle.bindings.specs.declared.request.RegisterRequest.{RegisterRequest}
use Rattle.bindings.specs.Bindings.{Asked, Contact, Register, RequestId}

abbrev pub contact_of : ContactParts → Contact
contact_of c = record {
  item = c.item.now;
  uri = c.uri.now;
  key = c.key.now;
  q = c.q;
  instance = option_copied c.instance;
  reg_id = option_copied c.reg_id;
  hop = c.hop;
}

abbrev pub asked_of : RegisterContact → Asked
asked_of c = record { contact = contact_of c.parts; time = c.time }

abbrev pub all_asked_of : List RegisterContact → List Asked
all_asked_of contacts = map asked_of contacts

abbrev pub id_of : RegisterRequest → RequestId
id_of r = record { call_id = r.call_id.now; cseq = r.cseq; key = r.key.now }

abbrev pub made_by_of : MadeBy → RequestId
made_by_of m = record { call_id = m.call_id.now; cseq = m.cseq; key = m.key.now }

abbrev pub register_of : RegisterRequest → Register
register_of r = record { id = id_of r; at = r.at; least = r.least; star = r.star; contacts = all_asked_of r.contacts.now }

use Rattle.sip_uri.proofs.Common.{option_copied}
use Rattle.sip_uri.proofs.Contacts.{next_contact, rest_shorter}
use Rattle.sip_uri.proofs.contact.contacts_of.Goals as goal

pub loop-rest-preserved : goal.loop-rest-preserved
loop-rest-preserved g c =
    let h = c.loop-rest.invariant in
    next_contact c.loop-rest.contacts.items c.push.new.self.items c.in_ok-contact_of.field-0 c.in-Some.text.now c.cut_item.result.0.now c.trim.result.now (option_copied c.cut_item.result.1) _ c.cut_item.ensures.value c.trim.ensures c.in_ok-push.ensures.items c.in_ok-contact_of.ensures (rw c.in-Some.is at h)

pub loop-rest-smaller : goal.loop-rest-smaller
loop-rest-smaller g c = rest_shorter (λ x. x.now) c.loop-rest.rest c.cut_item.result.1 c.in-Some.text c.in-Some.is c.cut_item.ensures.shorter

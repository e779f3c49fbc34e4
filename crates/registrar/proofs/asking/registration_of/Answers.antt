use Rattle.std.proofs.Common.{codes, sym, ap, ◌∙◌}
use Rattle.sip_text.specs.Name.{values_of}
use Rattle.sip_via.specs.ViaParts.{or_empty}
use Rattle.registrar.specs.Asking.{number_of}
use Rattle.registrar.specs.Contact.{Terms}
use Rattle.registrar.specs.Contacts.{contacts_of}
use Rattle.registrar.proofs.asking.registration_of.Goals as goal

pub returns : goal.returns
returns g c =
    let m = c.args.message.now in
    let call_id = sym (ap or_empty c.call_id.ensures) in
    let cseq = sym (ap number_of c.cseq.ensures) in
    let contacts = c.in_ok-contacts.ensures ∙ ap (λ (terms : Terms). contacts_of terms (values_of (codes "contact") m.headers)) c.terms_of-terms.ensures in
    λ i. record {
      user = c.args.user.items;
      id = record { call_id = call_id i; cseq = cseq i; key = c.in_ok-key.ensures i };
      at = c.args.source.millisecond;
      least = c.args.registrar.now.expirations.least;
      contacts = contacts i;
    }

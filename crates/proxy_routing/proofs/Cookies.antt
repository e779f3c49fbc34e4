-- Whether the top Via value of a request can be read, by the sender that it names.
use Rattle.proxy_routing.proofs.Common.{◌≡◌, ◌∙◌, false, Option, Some, Result, Ok, Err, refl, sym, ap}
use Rattle.std.proofs.Common.{None}
use Rattle.std.proofs.lemmas.Option.{same_Some}
use Rattle.sip_branch.specs.BranchText.{cookie}
use Rattle.sip_via.specs.declared.own.ViaFault.{ViaFault}
use Rattle.sip_via.specs.Sender.{SenderText, sender, sender_if_read}
use Rattle.sip_via.specs.ViaParts.{ViaText, or_empty}
use Rattle.proxy_routing.specs.Admission.{begins_with, has_cookie}

pub cookie_none : (r : Result ViaText ViaFault) (o : Option SenderText) → o ≡ sender_if_read r → o ≡ None → false ≡ has_cookie r
cookie_none (Ok via) o e f = absurd (let g : Some (sender via) ≡ None = sym e ∙ f in cc)
cookie_none (Err fault) o e f = refl

pub cookie_some : (r : Result ViaText ViaFault) (o : Option SenderText) (s : SenderText) → o ≡ sender_if_read r → o ≡ Some s → begins_with cookie (or_empty s.branch) ≡ has_cookie r
cookie_some (Ok via) o s e f =
    let g : Some s ≡ Some (sender via) = sym f ∙ e in
    ap (λ (x : SenderText). begins_with cookie (or_empty x.branch)) (same_Some _ _ g)
cookie_some (Err fault) o s e f = absurd (let g : Some s ≡ None = sym f ∙ e in cc)

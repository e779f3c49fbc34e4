use Rattle.std.proofs.Common.{sym, ◌∙◌, arith}
use Rattle.registrar.proofs.Values.{contact_header}
use Rattle.registrar.proofs.shown.add_contact.Goals as goal

pub push-requires : goal.push-requires
push-requires g c =
    contact_header c.contact-parts.result.item.now c.in_ok-value.value.items c.seconds_left-seconds.result (sym c.is_item.ensures ∙ c.if-not-is_item.false) c.in_ok-value.ensures (omega arith)

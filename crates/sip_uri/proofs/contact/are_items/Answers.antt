use Rattle.sip_uri.proofs.Common.{◌∙◌, sym, option_copied, arith}
use Rattle.sip_uri.proofs.Contacts.{item_empty, item_full}
use Rattle.sip_uri.proofs.contact.are_items.Goals as goal

pub returns-then-is_empty : goal.returns-then-is_empty
returns-then-is_empty c =
    let h = c.loop-rest.invariant in
    item_empty c.in-Some.text.now c.cut_item.result.0.now c.trim.result.now (option_copied c.cut_item.result.1) _ c.cut_item.ensures.value c.trim.ensures (sym c.is_empty.ensures ∙ c.if-is_empty.true) (rw c.in-Some.is at h)

pub loop-rest-preserved : goal.loop-rest-preserved
loop-rest-preserved c = grind (arith, item_full)

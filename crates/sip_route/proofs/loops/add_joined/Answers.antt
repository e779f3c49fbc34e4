use Rattle.sip_route.proofs.Common.{◌++◌, ◌∙◌, List, ℕ, sym, ap, subst, append_assoc, join_with_byte, Holds, behind_commas}
use Rattle.sip_route.proofs.Commas.{joined_commas}
use Rattle.sip_route.proofs.loops.add_joined.Goals as goal

pub returns : goal.returns
returns c = λ m held.
    let first = c.in-Some.first.now in
    let more = c.next.new.self in
    subst (λ (t : List ℕ). Holds c.add_more.new.hasher t)
    (append_assoc m first (behind_commas more) ∙ ap (λ (t : List ℕ). m ++ t) (sym (joined_commas first more) ∙ ap (join_with_byte 44) (sym c.in-Some.ensures.steps)))
    (c.add_more.ensures (m ++ first) (c.update.ensures m held))

use Rattle.sip_builders.proofs.Common.{List, ℕ, [], subst, sym, codes, IsMessage, along}
use Rattle.sip_builders.proofs.RequestsGood.{ack_good}
use Rattle.sip_builders.proofs.requests.ack_of.Goals as goal

pub along-requires : goal.along-requires
along-requires g c =
    subst (λ (to : List ℕ). IsMessage (along (codes "ACK") c.args.sent.now to [])) (sym c.first_value.ensures) (ack_good c.args.sent.now c.args.response.now c.requires c.is_message.ensures c.is_message-2.ensures)

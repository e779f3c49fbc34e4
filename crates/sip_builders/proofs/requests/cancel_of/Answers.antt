use Rattle.sip_builders.proofs.Common.{List, ℕ, [], refl, subst, sym, codes, IsMessage, along}
use Rattle.sip_builders.proofs.RequestsGood.{cancel_good, no_length}
use Rattle.sip_builders.proofs.requests.cancel_of.Goals as goal

pub along-requires : goal.along-requires
along-requires g c =
    subst (λ (to : List ℕ). IsMessage (along (codes "CANCEL") c.args.sent.now to [])) (sym c.first_value.ensures) (cancel_good c.args.sent.now [] c.requires c.is_message.ensures refl no_length)

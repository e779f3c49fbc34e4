use Rattle.call_caller.proofs.Common.{sym, subst, List, AllByRecursion, ContactText}
use Rattle.call_caller.proofs.Weights.{IsWeighed, contacts_weighed}
use Rattle.call_caller.proofs.contacts.offered_by.Goals as goal

pub offers_of-requires : goal.offers_of-requires
offers_of-requires g c =
    subst (λ (cs : List ContactText). AllByRecursion IsWeighed cs) (sym c.in_ok-contacts.ensures) (contacts_weighed c.args.status c.args.message.now)

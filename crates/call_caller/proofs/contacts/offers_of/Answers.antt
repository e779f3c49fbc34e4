use Rattle.call_caller.proofs.Common.{◌≡◌, ◌∙◌, ◌∷◌, ◌++◌, [], ap, refl, sym, subst, map, arith, length, List, append-nil, AllByRecursion, into_iter_items, ContactText, view_contacts, destination_of_contact, contact_for, offer_of}
use Rattle.sip_uri.specs.SeenContact.{view_contact}
use Rattle.call_caller.proofs.Weights.{IsWeighed, weighed_here}
use Rattle.call_caller.proofs.contacts.offers_of.Goals as goal

map_joined : {X Y : Type 0} (f : X → Y) (xs ys : List X) → map f (xs ++ ys) ≡ map f xs ++ map f ys
map_joined f [] ys = refl
map_joined f (x ∷ xs) ys = ap (λ l. f x ∷ l) (map_joined f xs ys)

all_yielded : {X : Type 0} (all yielded rest : List X) → all ≡ yielded ++ rest → 0 ≡ length rest → yielded ≡ all
all_yielded all yielded [] e h = sym (e ∙ append-nil yielded)
all_yielded all yielded (x ∷ rest) e h = absurd (omega arith)

pub push-requires : goal.push-requires
push-requires g c =
    let at = c.loop-contact in
    let rest = into_iter_items c.next.new.self in
    let all : c.args.contacts.items ≡ at.yielded ++ c.in-Some.contact ∷ rest = at.invariant.rest ∙ ap (λ l. at.yielded ++ l) c.in-Some.ensures.steps.0 in
    weighed_here (view_contacts at.yielded) (view_contacts rest) (view_contact c.in-Some.contact)
    (subst (λ (cs : List ContactText). AllByRecursion IsWeighed cs) (ap view_contacts all ∙ map_joined view_contact at.yielded (c.in-Some.contact ∷ rest)) c.requires)

pub returns : goal.returns
returns g c =
    let at = c.loop-contact in
    let all : at.yielded ≡ c.args.contacts.items = all_yielded c.args.contacts.items at.yielded (into_iter_items at.contact-iterator) at.invariant.rest (sym c.in-None.ensures.steps.0 ∙ at.invariant.len) in
    record {
      offers = at.invariant.offers ∙ ap (λ l. map offer_of (map (contact_for c.args.opened.now.tried) (view_contacts l))) all;
      destinations = at.invariant.destinations ∙ ap (λ l. map (destination_of_contact c.args.opened.now) (map (contact_for c.args.opened.now.tried) (view_contacts l))) all;
    }

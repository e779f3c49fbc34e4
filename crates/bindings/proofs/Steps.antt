-- Lists, as code and definitions go through them.
use Rattle.std.proofs.Common.{◌≡◌, Bool, true, false, cond, ◌||◌, List, [], ◌∷◌, map, fold, refl, sym, ap, ◌∙◌}
use Rattle.std.specs.Prelude.{◌&&◌, is_some, not}
use Rattle.std.specs.List.{list_any}
use Rattle.bindings.specs.declared.request.RegisterContact.{RegisterContact}
use Rattle.bindings.specs.declared.request.RegisterRequest.{RegisterRequest}
use Rattle.bindings.specs.Bindings.{Binding, Register, after_binding, after_contact, all_asked, at_most, binding_of, changed, there}
use Rattle.bindings.specs.Registering.{are_apart, asks_the_same}
use Rattle.bindings.specs.Seen.{all_asked_of, asked_of, id_of, register_of}

pub any_mapped : {X Y : Type 0} (p : Y → Bool) (f : X → Y) (xs : List X) → list_any p (map f xs) ≡ list_any (λ x. p (f x)) xs
any_mapped p f [] = refl
any_mapped p f (x ∷ xs) = ap (λ v. p (f x) || v) (any_mapped p f xs)

fold_mapped : (r : Register) (contacts : List RegisterContact) (bindings : List Binding)
    → fold (after_binding r.at) bindings (map (λ asked. binding_of r (asked_of asked)) contacts) ≡ fold (after_contact r) bindings (map asked_of contacts)
fold_mapped r [] bindings = refl
fold_mapped r (c ∷ contacts) bindings = fold_mapped r contacts (after_contact r bindings (asked_of c))

-- what is made of the contacts, taken in one after another, of which as many go as are too many
pub all_taken_in : (r : RegisterRequest) (old made inside result : List Binding) → is_some r.star ≡ false
    → made ≡ map (λ asked. binding_of (register_of r) (asked_of asked)) r.contacts.now → inside ≡ fold (after_binding r.at) (there r.at old) made → result ≡ at_most (id_of r) inside
    → result ≡ changed (register_of r) (there r.at old)
all_taken_in r old made inside result star is_made is_in is_result =
    let all : inside ≡ all_asked (register_of r) (there r.at old) =
    is_in ∙ ap (λ (bs : List Binding). fold (after_binding r.at) (there r.at old) bs) is_made ∙ fold_mapped (register_of r) r.contacts.now (there r.at old) in
    is_result ∙ ap (at_most (id_of r)) all ∙ sym (ap (λ (v : Bool). cond v [] (at_most (id_of r) (all_asked (register_of r) (there r.at old)))) star)

-- ---- contacts that name the same

apart_of : (first : RegisterContact) (others contacts : List RegisterContact) (v : Bool) → contacts ≡ first ∷ others
    → list_any (λ other. asks_the_same (asked_of first) (asked_of other)) others ≡ v → not (are_apart (all_asked_of contacts)) ≡ not (not v && are_apart (all_asked_of others))
apart_of first others contacts v e h =
    ap (λ (cs : List RegisterContact). not (are_apart (all_asked_of cs))) e
    ∙ ap (λ (v : Bool). not (not v && are_apart (all_asked_of others))) (any_mapped (asks_the_same (asked_of first)) asked_of others ∙ h)

pub twice_here : (first : RegisterContact) (others contacts : List RegisterContact) → contacts ≡ first ∷ others
    → list_any (λ other. asks_the_same (asked_of first) (asked_of other)) others ≡ true → true ≡ not (are_apart (all_asked_of contacts))
twice_here first others contacts e h = sym (apart_of first others contacts true e h)

pub twice_later : (first : RegisterContact) (others contacts : List RegisterContact) → contacts ≡ first ∷ others
    → list_any (λ other. asks_the_same (asked_of first) (asked_of other)) others ≡ false → not (are_apart (all_asked_of others)) ≡ not (are_apart (all_asked_of contacts))
twice_later first others contacts e h = sym (apart_of first others contacts false e h)

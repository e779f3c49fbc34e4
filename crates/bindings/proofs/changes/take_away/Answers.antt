use Rattle.std.proofs.Common.{◌≡◌, Some, None, List, sym, ◌∙◌, ap}
use Rattle.std.specs.Prelude.{position}
use Rattle.bindings.specs.Bindings.{Binding, names}
use Rattle.bindings.specs.Seen.{contact_of}
use Rattle.bindings.proofs.Places.{without_none, without_there}
use Rattle.bindings.proofs.changes.take_away.Goals as goal

pub returns-in-Some-clause-items : goal.returns-in-Some-clause-items
returns-in-Some-clause-items g c =
    let at : position (names (contact_of c.args.contact.now)) c.args.bindings.now.items ≡ Some c.in-Some.place =
    ap (λ (bs : List Binding). position (names (contact_of c.args.contact.now)) bs) (sym c.deref.ensures.value) ∙ sym c.place_named.ensures.place ∙ c.in-Some.is in
    c.remove.ensures.items ∙ sym (without_there {X = Binding} (names (contact_of c.args.contact.now)) c.args.bindings.now.items c.in-Some.place at)

pub returns-in_default-clause-items : goal.returns-in_default-clause-items
returns-in_default-clause-items g c =
    let at : position (names (contact_of c.args.contact.now)) c.args.bindings.now.items ≡ None =
    ap (λ (bs : List Binding). position (names (contact_of c.args.contact.now)) bs) (sym c.deref.ensures.value) ∙ sym c.place_named.ensures.place ∙ c.in_default.is in
    sym (without_none {X = Binding} (names (contact_of c.args.contact.now)) c.args.bindings.now.items at)

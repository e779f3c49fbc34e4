use Rattle.std.proofs.Common.{◌≡◌, Some, None, List, sym, ◌∙◌, ap}
use Rattle.std.specs.Prelude.{position}
use Rattle.bindings.specs.Bindings.{Binding, Contact, names}
use Rattle.bindings.specs.Seen.{contact_of}
use Rattle.bindings.proofs.Places.{put_behind, put_there}
use Rattle.bindings.proofs.changes.put.Goals as goal

pub returns-in-Some-clause-items : goal.returns-in-Some-clause-items
returns-in-Some-clause-items g c =
    let bindings = c.args.bindings.now.items in
    let at : position (names c.args.new.contact) bindings ≡ Some c.in-Some.place =
    ap (λ (k : Contact). position (names k) bindings) (sym c.contact.ensures)
    ∙ ap (λ (bs : List Binding). position (names (contact_of c.contact.result)) bs) (sym c.deref.ensures.value)
    ∙ sym c.place_named.ensures.place ∙ c.in-Some.is in
    sym (put_there {X = Binding} (names c.args.new.contact) c.args.new bindings c.in-Some.place at)

pub returns-in-None-clause-items : goal.returns-in-None-clause-items
returns-in-None-clause-items g c =
    let bindings = c.args.bindings.now.items in
    let at : position (names c.args.new.contact) bindings ≡ None =
    ap (λ (k : Contact). position (names k) bindings) (sym c.contact.ensures)
    ∙ ap (λ (bs : List Binding). position (names (contact_of c.contact.result)) bs) (sym c.deref.ensures.value)
    ∙ sym c.place_named.ensures.place ∙ c.in-None.is in
    c.push_reserved.ensures.items ∙ sym (put_behind {X = Binding} (names c.args.new.contact) c.args.new bindings at)

use Rattle.std.proofs.Common.{◌≡◌, Some, None, List, ℕ, Option, sym, ◌∙◌, ap}
use Rattle.std.specs.Prelude.{position}
use Rattle.bindings.specs.Bindings.{Binding, ends_first, first_end, is_of_another, without_first}
use Rattle.bindings.specs.Seen.{id_of}
use Rattle.bindings.proofs.Places.{without_nobody, without_none, without_there}
use Rattle.bindings.proofs.changes.let_one_go.Goals as goal

pub returns-in_default : goal.returns-in_default
returns-in_default g c =
    let id = id_of c.args.request.now in
    let bindings = c.args.bindings.now.items in
    let end : first_end (is_of_another id) bindings ≡ None = ap (λ (bs : List Binding). first_end (is_of_another id) bs) (sym c.deref.ensures.value) ∙ sym c.first_end_of_others.ensures ∙ c.in_default.is in
    sym (ap (λ (e : Option ℕ). without_first (ends_first id e) bindings) end ∙ without_nobody {X = Binding} bindings)

pub returns-in-Some-place_ending : goal.returns-in-Some-place_ending
returns-in-Some-place_ending g c =
    let id = id_of c.args.request.now in
    let bindings = c.args.bindings.now.items in
    let end : first_end (is_of_another id) bindings ≡ Some c.in-Some.end = ap (λ (bs : List Binding). first_end (is_of_another id) bs) (sym c.deref.ensures.value) ∙ sym c.first_end_of_others.ensures ∙ c.in-Some.is in
    let at : position (ends_first id (Some c.in-Some.end)) bindings ≡ Some c.in-Some-place_ending.place =
    ap (λ (bs : List Binding). position (ends_first id (Some c.in-Some.end)) bs) (sym c.deref-2.ensures.value) ∙ sym c.place_ending.ensures.place ∙ c.in-Some-place_ending.is in
    c.remove.ensures.items ∙ sym (ap (λ (e : Option ℕ). without_first (ends_first id e) bindings) end ∙ without_there {X = Binding} (ends_first id (Some c.in-Some.end)) bindings c.in-Some-place_ending.place at)

pub returns-in_default-place_ending : goal.returns-in_default-place_ending
returns-in_default-place_ending g c =
    let id = id_of c.args.request.now in
    let bindings = c.args.bindings.now.items in
    let end : first_end (is_of_another id) bindings ≡ Some c.in-Some.end = ap (λ (bs : List Binding). first_end (is_of_another id) bs) (sym c.deref.ensures.value) ∙ sym c.first_end_of_others.ensures ∙ c.in-Some.is in
    let at : position (ends_first id (Some c.in-Some.end)) bindings ≡ None =
    ap (λ (bs : List Binding). position (ends_first id (Some c.in-Some.end)) bs) (sym c.deref-2.ensures.value) ∙ sym c.place_ending.ensures.place ∙ c.in_default-place_ending.is in
    sym (ap (λ (e : Option ℕ). without_first (ends_first id e) bindings) end ∙ without_none {X = Binding} (ends_first id (Some c.in-Some.end)) bindings at)

use Rattle.std.proofs.Common.{◌≡◌, List, fold, sym, ap, ◌∙◌}
use Rattle.bindings.specs.Bindings.{Binding, after_binding, there}
use Rattle.bindings.proofs.Steps.{all_taken_in}
use Rattle.bindings.proofs.user_bindings.UserBindings.changed.Goals as goal

pub returns : goal.returns
returns g c =
    let at = c.args.request.now.at in
    let made = c.in_ok-made.made.items in
    let kept : c.in_ok-bindings.bindings.items ≡ there at c.args.self.now = c.in_ok-bindings.ensures.items ∙ ap (there at) (c.deref.ensures.value ∙ c.self.view_is) in
    all_taken_in c.args.request.now c.args.self.now made c.take_all_in.new.bindings.items c.let_go.new.bindings.items (sym c.is_some.ensures ∙ c.if-is_some.false) c.in_ok-made.ensures
    (c.take_all_in.ensures ∙ ap (λ (bs : List Binding). fold (after_binding at) bs made) kept) c.let_go.ensures

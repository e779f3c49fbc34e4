use Rattle.std.proofs.Common.{◌≡◌, ℕ, List, [], ◌∷◌, ◌++◌, None, ap, rules, subst, sym, ◌∙◌}
use Rattle.std.specs.BTreeMap.{get_by}
use Rattle.proxy_config.specs.inner.UserPlaces.{IsAdded}
use Rattle.proxy_config.proofs.UserPlaces.{at, user_added}
use Rattle.proxy_config.proofs.user_places.UserPlaces.add_user.Goals as goal

pub returns-clause-ok : goal.returns-clause-ok
returns-clause-ok g c =
    let old = c.args.self.now in
    let same : c.in_ok-user.user.items ≡ c.args.user.now = search rules in
    let none : get_by (at c.in_ok-user.user.items) old.places ≡ None = subst (λ (text : List ℕ). get_by (at text) old.places ≡ None) (sym same) c.requires in
    let grown : c.push.new.self.items ≡ c.args.place ∷ [] = c.in_ok-push.ensures.items ∙ ap (λ places. places ++ c.args.place ∷ []) c.new-places.ensures.items in
    subst (λ (text : List ℕ). IsAdded text c.args.place old (record { places = c.insert.new.self })) same
    (user_added old (record { places = c.insert.new.self }) c.in_ok-user.user.items c.push.new.self c.args.place none c.in-Ok.ensures.updates.1 grown c.in-Ok.ensures.updates.3)

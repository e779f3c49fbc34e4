use Rattle.proxy_config.proofs.Common.{◌≡◌, ◌≤◌, ℕ, [], ◌∷◌, ◌++◌, length, most_q, subst, true}
use Rattle.std.proofs.Common.{rules}
use Rattle.proxy_config.proofs.UserPlaces.{one_listed_by}
use Rattle.proxy_config.proofs.Moments.{still_keep}
use Rattle.proxy_config.specs.Parts.{may_follow}
use Rattle.proxy_config.proofs.listed.ListedLocations.push.Goals as goal

pub invariant_of-self-2 : goal.invariant_of-self-2
invariant_of-self-2 g c =
    let user : c.user.result.now ≡ c.args.location.user = search rules in
    let place : c.len-place.result ≡ length c.self.inside.locations.items = search rules in
    let items : c.push_reserved.new.self.items ≡ c.self.inside.locations.items ++ c.args.location ∷ [] = search rules in
    one_listed_by c.self.inside.locations.items c.args.location c.self.inside.places c.add.new.self c.self.invariant c.user.result.now user c.len-place.result place c.in_ok-add.ensures.ok
    c.push_reserved.new.self.items items

pub returns-clause-keeps : goal.returns-clause-keeps
returns-clause-keeps g c =
    let may : c.may_follow.result ≡ may_follow c.args.streams c.args.self.now c.args.location = c.may_follow.ensures in
    let some : c.may_follow.result ≡ true = let b = c.if-not-may_follow.false in cc in
    let items : c.push_reserved.new.self.items ≡ c.args.self.now ++ c.args.location ∷ [] = search rules in
    still_keep c.args.streams c.args.self.now c.args.location c.may_follow.result may some (subst (λ (n : ℕ). n ≤ most_q) c.q-weight.ensures.value c.q-weight.ensures.most) c.push_reserved.new.self.items items

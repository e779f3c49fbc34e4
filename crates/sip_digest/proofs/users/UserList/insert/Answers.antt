use Rattle.std.proofs.Common.{◌≡◌, ℕ, List, rules, subst}
use Rattle.sip_digest.specs.inner.Added.{IsAdded}
use Rattle.sip_digest.proofs.Indexed.{user_added}
use Rattle.sip_digest.proofs.users.UserList.insert.Goals as goal

pub returns : goal.returns
returns g c =
    let same : c.in_ok-name.name.items ≡ c.args.user.now.name.now = search rules in
    subst (λ (text : List ℕ). IsAdded (record { name = text; secrets = c.args.user.now.secrets }) c.args.self.now (record { users = c.insert.new.self })) same
    (user_added c.args.self.now (record { users = c.insert.new.self }) (record { name = c.in_ok-name.name.items; secrets = c.args.user.now.secrets }) c.in-Ok.ensures.updates.1 c.in-Ok.ensures.updates.3)

use Rattle.sip_digest.proofs.UsersCommon.{sym, ◌∙◌}
use Rattle.sip_digest.specs.inner.UsersReading.{seen_user}
use Rattle.sip_digest.proofs.Indexed.{user_refused, user_taken}
use Rattle.sip_digest.proofs.users.UserList.add_user.Goals as goal

pub returns-then-has : goal.returns-then-has
returns-then-has g c = λ users has. user_refused c.args.self.now users (seen_user c.args.user.now) has (sym c.has.ensures ∙ c.if-has.true)

pub returns : goal.returns
returns g c = λ users has. user_taken c.args.self.now c.insert.new.self users (seen_user c.args.user.now) has (sym c.has.ensures ∙ c.if-has.false) c.in_ok-insert.ensures

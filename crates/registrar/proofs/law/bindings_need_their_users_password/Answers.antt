use Rattle.registrar.proofs.Passwords.{needed}
use Rattle.registrar.proofs.law.bindings_need_their_users_password.Goals as goal

pub returns : goal.returns
returns c = λ domain realm expirations source m registration asked outside. needed domain realm expirations source m registration outside asked

use Rattle.authentication.proofs.Opened.{may_open}
use Rattle.authentication.proofs.law.strangers_open_nothing_else.Goals as goal

pub returns : goal.returns
returns c = λ admission arrival m decision rule decided opens untrusted. may_open admission arrival m decision rule opens decided untrusted

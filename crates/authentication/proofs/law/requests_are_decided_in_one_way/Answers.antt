use Rattle.authentication.proofs.Once.{decided_once}
use Rattle.authentication.proofs.law.requests_are_decided_in_one_way.Goals as goal

pub returns : goal.returns
returns c = λ admission arrival m decision other decided decided_too. decided_once admission arrival m decision other decided decided_too

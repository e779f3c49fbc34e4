use Rattle.bindings.proofs.Histories.{after_apart}
use Rattle.bindings.proofs.law.those_of_one_request_differ.Goals as goal

pub returns : goal.returns
returns c = after_apart

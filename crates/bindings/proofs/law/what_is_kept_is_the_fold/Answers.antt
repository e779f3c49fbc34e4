use Rattle.bindings.proofs.Histories.{kept_is_fold}
use Rattle.bindings.proofs.law.what_is_kept_is_the_fold.Goals as goal

pub returns : goal.returns
returns c = kept_is_fold

use Rattle.std.proofs.Common.{rules}
use Rattle.std.proofs.lemmas.Fn.{filter_same}
use Rattle.bindings.specs.Bindings.{is_there}
use Rattle.bindings.proofs.changes.keep_there.Goals as goal

pub returns-clause-items : goal.returns-clause-items
returns-clause-items g c =
    filter_same _ (is_there c.args.moment) _ (λ x b f h. search rules) _ _ c.retain.ensures.filtered

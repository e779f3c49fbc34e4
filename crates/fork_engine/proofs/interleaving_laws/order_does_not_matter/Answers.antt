use Rattle.fork_engine.proofs.Least.{least_is_chosen, plain_scripts_end}
use Rattle.fork_engine.proofs.Alone.{least_are_equal, one_alone_is_chosen}
use Rattle.fork_engine.proofs.interleaving_laws.order_does_not_matter.Goals as goal

pub returns-clause-end : goal.returns-clause-end
returns-clause-end c = plain_scripts_end c.branches_go_on.ensures.always c.targets_are_bounded.ensures.at_first

pub returns-clause-chosen : goal.returns-clause-chosen
returns-clause-chosen c = least_is_chosen c.branches_go_on.ensures.always c.targets_are_bounded.ensures.at_first

pub returns-clause-equal : goal.returns-clause-equal
returns-clause-equal c = least_are_equal

pub returns-clause-alone : goal.returns-clause-alone
returns-clause-alone c = one_alone_is_chosen

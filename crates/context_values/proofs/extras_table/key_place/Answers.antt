use Rattle.context_values.proofs.Common.{rules, is_before}
use Rattle.std.proofs.lemmas.List.Sorted.{IsPartitionPoint-from_clause}
use Rattle.context_values.proofs.ByKeySteps.{partitioned, parted}
use Rattle.context_values.proofs.extras_table.key_place.Goals as goal

pub returns-clause-parted : goal.returns-clause-parted
returns-clause-parted g c =
    parted c.args.all.now c.args.by_key.now c.args.key.now c.partition_point.result
    (IsPartitionPoint-from_clause (is_before c.args.all.now c.args.key.now) _ _ c.partition_point.ensures.partitioned
    (partitioned c.args.all.now c.args.by_key.now c.args.key.now c.requires) (λ a r q k. search rules))

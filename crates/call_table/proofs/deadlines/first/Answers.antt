use Rattle.std.proofs.Common.{◌≡◌, rules, ap}
use Rattle.call_table.specs.Deadlines.{Entry}
use Rattle.call_table.proofs.DeadlinesListed.{listed_popped_stale, same_top}
use Rattle.call_table.proofs.deadlines.first.Goals as goal

pub loop-deadline-preserved : goal.loop-deadline-preserved
loop-deadline-preserved g c =
    let gone = c.in-Some-pop._late in
    let top : gone ≡ c.in-Some.field-0 = same_top _ _ _ _ c.in-Some-pop.ensures.permutation c.in-Some-pop.ensures.top (search rules) in (
      (c.in-Some-pop.ensures.heap_order c.loop-deadline.invariant.0).0,
      listed_popped_stale _ _ gone _ c.in-Some.field-0.0.1 c.in-Some.field-0.0.0 c.in-Some-pop.ensures.permutation (ap (λ (e : Entry). e.0) top)
          c.if-counts.ensures.other c.loop-deadline.invariant.1,
    )

use Rattle.std.specs.BinaryHeap.{heap_items, heap_len, IsHeap}
use Rattle.call_table.specs.Deadlines.{entry_order, AreListed}
use Rattle.call_table.proofs.deadlines.first.Given as goal

abbrev pub invariant-loop-deadline : goal.invariant-loop-deadline
invariant-loop-deadline g l = IsHeap entry_order (heap_items l.heap) × AreListed (heap_items l.heap) l.deadlines.entries

abbrev pub decreases-loop-deadline : goal.decreases-loop-deadline
decreases-loop-deadline g l = heap_len l.heap

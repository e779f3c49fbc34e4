use Rattle.std.proofs.Common.{◌≡◌, ◌≤◌, ◌<◌, ℕ, false}
use Rattle.call_table.specs.inner.Entries.{is_placed}
use Rattle.call_table.proofs.entries.ShelfEntries.next_place.Given as goal

abbrev pub invariant-loop-at : goal.invariant-loop-at
invariant-loop-at g l = (k : ℕ) → l.first ≤ k → k < l.at → is_placed l.self k ≡ false

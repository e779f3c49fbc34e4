use Rattle.std.proofs.Common.{◌≡◌, false, length}
use Rattle.proxy_threads.specs.CallId.{found_in}
use Rattle.proxy_threads.proofs.by_call.call_id.Given as goal

abbrev pub invariant-loop-line : goal.invariant-loop-line
invariant-loop-line l = found_in false l.rest ≡ found_in false l.text

abbrev pub decreases-loop-line : goal.decreases-loop-line
decreases-loop-line l = length l.rest

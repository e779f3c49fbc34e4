use Rattle.std.proofs.Common.{◌≡◌, ◌≤◌, length}
use Rattle.proxy_threads.specs.CallId.{skip_word}
use Rattle.proxy_threads.proofs.by_call.skip_word.Given as goal

abbrev pub invariant-loop-rest : goal.invariant-loop-rest
invariant-loop-rest l = (skip_word l.rest ≡ skip_word l.text) × (length l.rest ≤ length l.text)

abbrev pub decreases-loop-rest : goal.decreases-loop-rest
decreases-loop-rest l = length l.rest

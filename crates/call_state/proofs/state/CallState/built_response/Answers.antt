-- The prover finds these answers by itself: they stand here so that it need not search twice where an edit strikes the function.
use Rattle.std.proofs.Common.{rules}
use Rattle.call_state.proofs.state.CallState.built_response.Goals as goal

pub returns-in_ok-allocator-in-Trying : goal.returns-in_ok-allocator-in-Trying
returns-in_ok-allocator-in-Trying c = search rules

-- The prover finds these answers by itself: they stand here so that it need not search twice where an edit strikes the function.
use Rattle.std.proofs.Common.{rules}
use Rattle.call_state.proofs.state.CallState.tick_server.Goals as goal

pub returns-then-not-is_response-clause-ok : goal.returns-then-not-is_response-clause-ok
returns-then-not-is_response-clause-ok c = search rules

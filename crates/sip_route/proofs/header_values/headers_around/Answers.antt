use Rattle.std.proofs.Common.{arith}
use Rattle.sip_route.proofs.header_values.headers_around.Goals as goal

pub returns-then-is_named-clause-found : goal.returns-then-is_named-clause-found
returns-then-is_named-clause-found c = grind arith

pub loop-header-preserved : goal.loop-header-preserved
loop-header-preserved c = grind arith

use Rattle.std.specs.Option.{option_copied}
use Rattle.fork_call.proofs.RecordRoutes.{two_routes_good}
use Rattle.fork_call.proofs.record_route.two_are_value.Goals as goal

pub returns : goal.returns
returns c = two_routes_good c.args.own c.args.first (option_copied c.args.token) c.fact_own.ensures c.requires

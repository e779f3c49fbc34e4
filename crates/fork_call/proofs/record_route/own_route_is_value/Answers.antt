use Rattle.std.specs.Option.{option_copied}
use Rattle.fork_call.proofs.RecordRoutes.{own_route_good}
use Rattle.fork_call.proofs.record_route.own_route_is_value.Goals as goal

pub returns : goal.returns
returns c = own_route_good c.args.own c.args.stream (option_copied c.args.token) c.fact_own.ensures c.requires

use Rattle.std.proofs.Common.{◌∙◌, ap, slice_set}
use Rattle.call_caller.proofs.NewDestinations.{set_without}
use Rattle.call_caller.proofs.rows.take_destination.Goals as goal

pub returns-clause-left : goal.returns-clause-left
returns-clause-left g c =
    ap (slice_set c.args.destinations.now.items c.args.place) c.take.ensures.after ∙ set_without c.args.destinations.now.items c.args.place

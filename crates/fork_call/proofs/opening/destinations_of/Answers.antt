use Rattle.fork_model.specs.Log.{table_of}
use Rattle.fork_call.proofs.Placed.{place_within, destinations_more}
use Rattle.fork_call.proofs.opening.destinations_of.Goals as goal

pub destination_at-requires-clause-there : goal.destination_at-requires-clause-there
destination_at-requires-clause-there g c =
    place_within (table_of c.args.book.now).rows c.args.candidates.now c.loop-n.n c.row_place-place.result c.requires.places c.row_place-place.ensures

pub loop-n-preserved : goal.loop-n-preserved
loop-n-preserved g c =
    destinations_more c.args.opened.now.large c.args.candidates.now (table_of c.args.book.now).rows c.loop-n.destinations.items c.push.new.self.items
    c.loop-n.n c.row_place-place.result c.in_ok-destination_at.field-0
    c.loop-n.invariant c.in_ok-push.ensures.items c.row_place-place.ensures c.in_ok-destination_at.ensures

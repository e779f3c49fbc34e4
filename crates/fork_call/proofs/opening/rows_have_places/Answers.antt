use Rattle.fork_rank.specs.KindView as kinds
use Rattle.fork_call.proofs.Placed.{places}
use Rattle.fork_call.proofs.opening.rows_have_places.Goals as goal

pub returns : goal.returns
returns g c = places c.args.candidates.now (kinds.kind_of c.args.kind) c.args.rules c.args.book.now c.requires

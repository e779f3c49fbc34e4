use Rattle.fork_call.proofs.OpeningCommon.{table_of, destination_of_row}
use Rattle.fork_rank.specs.KindView as kinds
use Rattle.fork_call.proofs.Placed.{as_many, begun_so}
use Rattle.fork_call.proofs.opening.begin.Goals as goal

pub begin-requires : goal.begin-requires
begin-requires g c =
    record { destinations = as_many (destination_of_row c.args.opened.large c.args.candidates.now) c.in_ok-destinations.destinations.items (table_of c.in_ok-book.book).rows c.in_ok-destinations.ensures }

pub returns : goal.returns
returns g c =
    begun_so c.args.rules c.args.opened c.args.candidates.now c.in_ok-destinations.destinations.items c.in_ok-book.book (kinds.kind_of c.kind-kind.result)
    c.begin.result c.begin.ensures c.in_ok-book.ensures c.kind-kind.ensures c.in_ok-destinations.ensures

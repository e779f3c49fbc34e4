use Rattle.stream_connections.proofs.StreamWrites.{written_so_far}
use Rattle.stream_connections.proofs.law.what_is_written_is_a_front.Goals as goal

pub returns : goal.returns
returns c = written_so_far

use Rattle.stream_connections.proofs.StreamReads.{pieces_are}
use Rattle.stream_connections.proofs.law.pieces_are_of_the_stream.Goals as goal

pub returns : goal.returns
returns c = pieces_are c.frames_stay.ensures

use Rattle.sip_build.proofs.Common.{take, pieces_text, Placed}
use Rattle.sip_build.proofs.place.place_pieces.Given as goal

abbrev pub invariant-loop-piece : goal.invariant-loop-piece
invariant-loop-piece l = Placed l.fn.out l.out l.at (pieces_text (take l.piece-index l.pieces)) l.end

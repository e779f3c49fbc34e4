use Rattle.sip_digest.proofs.Common.{take, pieces_text}
use Rattle.md5.specs.Md5.{Holds}
use Rattle.sip_digest.proofs.digests.md5_of_pieces.Given as goal

abbrev pub invariant-loop-piece : goal.invariant-loop-piece
invariant-loop-piece l = Holds l.hasher (pieces_text (take l.piece-index l.pieces))

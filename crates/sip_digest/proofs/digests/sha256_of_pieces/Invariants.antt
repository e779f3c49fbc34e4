use Rattle.sip_digest.proofs.Common.{take, pieces_text}
use Rattle.sha2.specs.Hashers.{Holds256}
use Rattle.sip_digest.proofs.digests.sha256_of_pieces.Given as goal

abbrev pub invariant-loop-piece : goal.invariant-loop-piece
invariant-loop-piece l = Holds256 l.hasher (pieces_text (take l.piece-index l.pieces))

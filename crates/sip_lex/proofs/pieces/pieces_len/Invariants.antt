use Rattle.sip_lex.proofs.Common.{◌≡◌, take, length}
use Rattle.sip_lex.specs.Texts.{pieces_text, saturated}
use Rattle.sip_lex.proofs.pieces.pieces_len.Given as goal

abbrev pub invariant-loop-piece : goal.invariant-loop-piece
invariant-loop-piece l = l.len ≡ saturated (length (pieces_text (take l.piece-index l.pieces)))

use Rattle.sip_lex.proofs.Common.{◌≡◌, ◌≤◌, ◌++◌, take}
use Rattle.sip_lex.specs.Texts.{pieces_text}
use Rattle.sip_lex.proofs.pieces.append_each.Given as goal

abbrev pub invariant-loop-piece : goal.invariant-loop-piece
invariant-loop-piece g l = record {
  items : l.out.items ≡ l.fn.out.items ++ pieces_text (take l.piece-index l.pieces);
  capacity : l.fn.out.cap ≤ l.out.cap;
}

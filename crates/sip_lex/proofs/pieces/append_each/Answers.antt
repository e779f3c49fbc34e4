use Rattle.sip_lex.proofs.Grown.{none_for_part, of_err}
use Rattle.sip_lex.proofs.pieces.append_each.Goals as goal

pub returns-in_err-extend_from_slice-clause-full :
    goal.returns-in_err-extend_from_slice-clause-full
returns-in_err-extend_from_slice-clause-full g c =
    of_err _ (none_for_part (λ p. p.now) c.args.out.now.items c.loop-piece.out.items c.args.pieces.now c.loop-piece.piece-index _ _ _ _ _ c.loop-piece-test.true c.args.out.now.ok.0 c.loop-piece.out.ok.0 c.loop-piece.invariant.items c.loop-piece.invariant.capacity c.in_err-extend_from_slice.ensures.full)

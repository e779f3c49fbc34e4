use Rattle.sip_build.proofs.Placed.{fits-next}
use Rattle.sip_build.proofs.place.place_pieces.Goals as goal

pub place-end-requires : goal.place-end-requires
place-end-requires c =
    fits-next (λ p. p.now) c.args.out.now c.loop-piece.out c.args.pieces.now c.loop-piece.piece-index c.args.at c.loop-piece.end _ c.loop-piece-test.true c.loop-piece.invariant c.requires

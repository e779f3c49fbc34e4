use Rattle.sip_build.proofs.Common.{List, ℕ, codes, Bor, header_text, line}
use Rattle.sip_build.proofs.Placed.{fits-next}
use Rattle.sip_build.proofs.runs.place_contacts.Goals as goal

pub place_line-end-requires : goal.place_line-end-requires
place_line-end-requires c =
    fits-next (λ (t : Bor (List ℕ)). header_text (line (codes "Contact") t.now)) c.args.out.now c.loop-text.out c.args.kept.now c.loop-text.text-index c.args.at c.loop-text.end _ c.loop-text-test.true c.loop-text.invariant c.requires

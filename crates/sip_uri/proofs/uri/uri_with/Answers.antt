use Rattle.sip_uri.proofs.Common.{List, ℕ, sym, ap, subst, IsKept, parts_key, parts}
use Rattle.sip_uri.proofs.Checked.{kept_read}
use Rattle.sip_uri.proofs.uri.uri_with.Goals as goal

pub invariant_of-result : goal.invariant_of-result
invariant_of-result g c =
    let text = c.args.text.now in
    let good = kept_read text (parts_key (parts c.args.cut.now)) c.requires.read (ap parts_key c.requires.parts) in
    subst (λ (t : List ℕ × List ℕ). IsKept t.0 t.1) (sym c.in_ok-texts_of.ensures) good

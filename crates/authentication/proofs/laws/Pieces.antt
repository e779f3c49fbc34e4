-- What stands between marks, one piece after another.
use Rattle.std.proofs.Common.{◌≡◌, ℕ, List, ◌∷◌, Option, Some, sym, ap, ◌∙◌}
use Rattle.std.specs.Borrow.{Bor}
use Rattle.std.specs.Option.{option_copied}
use Rattle.sip_lex.specs.declared.sheltered.Shelter.TheVariants.{QuotesAndAngles}
use Rattle.sip_lex.specs.declared.sheltered.ShelterState.TheVariants.{Plain}
use Rattle.sip_lex.specs.Cut.{cut, is, seen_cut}
use Rattle.sip_lex.specs.Outside.{pieces_outside_behind}
use Rattle.sip_lex.specs.Pieces.{pieces_behind}
use Rattle.sip_lex.specs.Sheltered.{cut_outside}
use Rattle.sip_lex.proofs.laws.OutsideSplits.{pieces_outside-cut}
use Rattle.sip_lex.proofs.laws.Splits.{pieces-cut}

abbrev Cut : Type 0
Cut = Bor (List ℕ) × Option (Bor (List ℕ))

-- outside quotes and angle brackets: the first piece, and those behind it
pub next_piece : (mark : ℕ) (text : List ℕ) (r : Cut) → seen_cut r ≡ cut_outside QuotesAndAngles mark Plain text
    → pieces_outside_behind QuotesAndAngles mark (Some text) ≡ r.0.now ∷ pieces_outside_behind QuotesAndAngles mark (option_copied r.1)
next_piece mark text r e =
    pieces_outside-cut QuotesAndAngles mark text ∙ sym (ap (λ (c : List ℕ × Option (List ℕ)). c.0 ∷ pieces_outside_behind QuotesAndAngles mark c.1) e)

-- the same anywhere
pub next_part : (mark : ℕ) (text : List ℕ) (r : Cut) → seen_cut r ≡ cut (is mark) text → pieces_behind mark (Some text) ≡ r.0.now ∷ pieces_behind mark (option_copied r.1)
next_part mark text r e = pieces-cut mark text ∙ sym (ap (λ (c : List ℕ × Option (List ℕ)). c.0 ∷ pieces_behind mark c.1) e)

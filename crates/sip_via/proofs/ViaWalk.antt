-- Via values and parameters, one by one.
use Rattle.sip_via.proofs.Common.{◌≡◌, ℕ, List, ◌∷◌, map, Option, Some, sym, ap, ◌∙◌, Bor, option_copied, Quotes, Plain, trim, pieces_outside, pieces_outside_behind, cut_outside, pieces_outside-cut, values_in, params_of, values_behind}
use Rattle.sip_lex.specs.Cut.{seen_cut}

abbrev Cut : Type 0
Cut = Bor (List ℕ) × Option (Bor (List ℕ))

-- the first piece of a text, and those behind it
pieces-next : (mark : ℕ) (text : List ℕ) (r : Cut) → seen_cut r ≡ cut_outside Quotes mark Plain text → pieces_outside Quotes mark text ≡ r.0.now ∷ pieces_outside_behind Quotes mark (option_copied r.1)
pieces-next mark text r e = pieces_outside-cut Quotes mark text ∙ sym (ap (λ (c : List ℕ × Option (List ℕ)). c.0 ∷ pieces_outside_behind Quotes mark c.1) e)

pub next_param : (text : List ℕ) (r : Cut) → seen_cut r ≡ cut_outside Quotes 59 Plain text → params_of (Some text) ≡ r.0.now ∷ params_of (option_copied r.1)
next_param text r e = pieces-next 59 text r e

pub next_value : (text : List ℕ) (r : Cut) (value : List ℕ) → seen_cut r ≡ cut_outside Quotes 44 Plain text → value ≡ trim r.0.now → values_in text ≡ value ∷ values_behind (option_copied r.1)
next_value text r value e t = ap (map trim) (pieces-next 44 text r e) ∙ ap (λ (v : List ℕ). v ∷ values_behind (option_copied r.1)) (sym t)

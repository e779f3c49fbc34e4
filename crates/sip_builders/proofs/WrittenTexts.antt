-- Texts that messages are written as.
use Rattle.sip_builders.proofs.Common.{◌≡◌, ℕ, List, [], ◌∷◌, ◌++◌, ap, ◌∙◌, flat_map, append-nil, sym, IsMessage, HeaderText, MessageText, arith, common_steps}
use Rattle.std.proofs.lemmas.Grind.{flat_map-append}
use Rattle.sip_text.specs.Text.{header_text, spelling}
use Rattle.sip_builders.specs.Written.{IsWritten}

abbrev Text : Type 0
Text = List ℕ

-- what was appended to an empty text
pub spelled : (empty written text : Text) (m : MessageText) → empty ≡ [] → written ≡ empty ++ spelling m → text ≡ written → text ≡ spelling m
spelled empty written text m none all same = same ∙ all ∙ ap (λ (front : Text). front ++ spelling m) none

pub is_written : (text : Text) (m : MessageText) → IsMessage m → text ≡ spelling m → IsWritten text
is_written text m is e = (m, is, e)

-- ---- header lines one behind the other

pub eight : (old h1 h2 h3 h4 h5 h6 h7 h8 a b d e f g k l : Text) → h1 ≡ old ++ a → h2 ≡ h1 ++ b → h3 ≡ h2 ++ d → h4 ≡ h3 ++ e → h5 ≡ h4 ++ f → h6 ≡ h5 ++ g → h7 ≡ h6 ++ k → h8 ≡ h7 ++ l → h8 ≡ old ++ (a ++ (b ++ (d ++ (e ++ (f ++ (g ++ (k ++ l)))))))
eight old h1 h2 h3 h4 h5 h6 h7 h8 a b d e f g k l e1 e2 e3 e4 e5 e6 e7 e8 = grind (arith, common_steps)

pub lines_text : (a b e f g k l : HeaderText) (routes : List HeaderText) → header_text a ++ (header_text b ++ (flat_map header_text routes ++ (header_text e ++ (header_text f ++ (header_text g ++ (header_text k ++ header_text l)))))) ≡ flat_map header_text (a ∷ b ∷ (routes ++ e ∷ f ∷ g ∷ k ∷ l ∷ []))
lines_text a b e f g k l routes =
    ap (λ (x : Text). header_text a ++ (header_text b ++ (flat_map header_text routes ++ (header_text e ++ (header_text f ++ (header_text g ++ (header_text k ++ x))))))) (sym (append-nil (header_text l)))
    ∙ ap (λ (x : Text). header_text a ++ (header_text b ++ x)) (sym (flat_map-append header_text routes (e ∷ f ∷ g ∷ k ∷ l ∷ [])))

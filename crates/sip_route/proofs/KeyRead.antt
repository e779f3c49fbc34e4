-- A text against a key, part by part.
use Rattle.sip_route.proofs.Common.{◌≡◌, ◌∙◌, ◌∷◌, ◌++◌, ap, codes, key_text, List, sym, str_to_ascii_lowercase, ℕ}
use Rattle.std.proofs.Common.{◌≢◌}
use Rattle.std.proofs.lemmas.List.{append_cancel_left}
use Rattle.std.specs.Fmt.{decimal}

abbrev low : List ℕ → List ℕ
low host = str_to_ascii_lowercase host

module _ (text host : List ℕ) (port : ℕ) (branch : List ℕ) where
  -- what stands behind each part, where the text is the key
  pub behind_host : (r : List ℕ) → text ≡ low host ++ r → text ≡ key_text host port branch → r ≡ 58 ∷ (decimal port ++ (32 ∷ branch))
  behind_host r e is = append_cancel_left (low host) r (58 ∷ (decimal port ++ (32 ∷ branch))) (sym e ∙ is)

  pub behind_colon : (r s : List ℕ) → text ≡ low host ++ r → r ≡ codes ":" ++ s → text ≡ key_text host port branch → s ≡ decimal port ++ (32 ∷ branch)
  behind_colon r s e f is = append_cancel_left (codes ":") s (decimal port ++ (32 ∷ branch)) (sym f ∙ behind_host r e is)

  pub behind_port : (r s t digits : List ℕ) → digits ≡ decimal port → text ≡ low host ++ r → r ≡ codes ":" ++ s → s ≡ digits ++ t → text ≡ key_text host port branch → t ≡ 32 ∷ branch
  behind_port r s t digits d e f g is = append_cancel_left (decimal port) t (32 ∷ branch) (ap (λ (ds : List ℕ). ds ++ t) (sym d) ∙ sym g ∙ behind_colon r s e f is)

  pub behind_space : (r s t u digits : List ℕ) → digits ≡ decimal port → text ≡ low host ++ r → r ≡ codes ":" ++ s → s ≡ digits ++ t → t ≡ codes " " ++ u → text ≡ key_text host port branch → u ≡ branch
  behind_space r s t u digits d e f g h is = append_cancel_left (codes " ") u branch (sym h ∙ behind_port r s t digits d e f g is)

  -- it is the key where the branch stands behind all
  pub whole : (r s t u digits : List ℕ) → digits ≡ decimal port → text ≡ low host ++ r → r ≡ codes ":" ++ s → s ≡ digits ++ t → t ≡ codes " " ++ u → u ≡ branch → text ≡ key_text host port branch
  whole r s t u digits d e f g h is =
      e ∙ ap (λ (x : List ℕ). low host ++ x) (f ∙ ap (λ (x : List ℕ). 58 ∷ x) (g ∙ ap (λ (ds : List ℕ). ds ++ t) d ∙ ap (λ (x : List ℕ). decimal port ++ x) (h ∙ ap (λ (x : List ℕ). 32 ∷ x) is)))

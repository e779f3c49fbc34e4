-- The values of a name are those of its lines.
use Rattle.proxy_routing.proofs.Common.{◌≡◌, ◌∙◌, ℕ, Bool, true, false, List, refl, sym, ap}
use Rattle.std.proofs.Common.{[], ◌∷◌, cond, map}
use Rattle.sip_text.specs.Name.{same_name, values_of}
use Rattle.sip_text.specs.Text.{HeaderText}
use Rattle.sip_route.specs.Lines.{lines_among}
use Rattle.proxy_routing.specs.OwnCredentials.{AreSameBut}

abbrev value : HeaderText → List ℕ
value h = h.value

values_by : (name : List ℕ) (hs : List HeaderText) → values_of name hs ≡ map value (lines_among name hs)
unfolding values_of
values_by name [] = refl
values_by name (h ∷ hs) = one (same_name name h.name) (values_by name hs)
  where
    one : (b : Bool) → values_of name hs ≡ map value (lines_among name hs)
        → cond b (h.value ∷ values_of name hs) (values_of name hs) ≡ map value (cond b (h ∷ lines_among name hs) (lines_among name hs))
    one true e = ap (λ (vs : List (List ℕ)). h.value ∷ vs) e
    one false e = e

pub same_values : (name : List ℕ) (hs others : List HeaderText) → AreSameBut name hs others → (other : List ℕ) → same_name name other ≡ false → values_of other hs ≡ values_of other others
same_values name hs others same other differ =
    values_by other hs ∙ ap (λ (ls : List HeaderText). map value ls) (same other differ) ∙ sym (values_by other others)

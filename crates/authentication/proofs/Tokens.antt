-- Whether a request belongs to a dialog that went by the proxy, part by part.
use Rattle.std.proofs.Common.{◌≡◌, ℕ, Bool, true, false, List, Option, Some, None, sym, subst}
use Rattle.std.specs.Prelude.{IsTrue, ◌↔◌, is_some}
use Rattle.sip_text.specs.declared.needed.MandatoryHeader.TheVariants.{To}
use Rattle.sip_text.specs.Fields.{value_of}
use Rattle.sip_lex.specs.Tag.{tag_in}
use Rattle.sip_text.specs.Text.{MessageText}
use Rattle.sip_via.specs.declared.own.Own.{Own}
use Rattle.sip_route.specs.Loop.{call_id}
use Rattle.sip_digest.specs.Stamp.{IsGoodToken}
use Rattle.authentication.specs.Dialog.{IsOfDialog, IsOwnWithToken, first_route, names_home, token_of}

pub false_true : IsTrue false → ⊥
false_true e = absurd cc

pub differ : (b : Bool) → b ≡ false → b ≡ true → ⊥
differ b e f = absurd cc

none_some : {X : Type 0} (o : Option X) (x : X) → o ≡ None → o ≡ Some x → ⊥
none_some o x e f = absurd cc

same_some : {X : Type 0} (o : Option X) (x y : X) → o ≡ Some x → o ≡ Some y → x ≡ y
same_some o x y e f = cc

module _ (secret : List ℕ) (own route : Own) (second : ℕ) where
  pub not_own : (id value : List ℕ) → names_home own route value ≡ false → IsTrue false ↔ IsOwnWithToken secret own route second id value
  not_own id value h = (λ t. absurd (false_true t), λ is. absurd (differ (names_home own route value) h is.leads_home))

  pub no_token : (id value : List ℕ) → token_of value ≡ None → IsTrue false ↔ IsOwnWithToken secret own route second id value
  no_token id value h = (λ t. absurd (false_true t), λ is. absurd (none_some (token_of value) is.token h is.has_token))

  pub with_token : (id value token : List ℕ) (good : Bool) → names_home own route value ≡ true → token_of value ≡ Some token → IsTrue good ↔ IsGoodToken secret id second token
      → IsTrue good ↔ IsOwnWithToken secret own route second id value
  with_token id value token good home is_token k = (
    λ t. record { leads_home = home; token = token; has_token = is_token; good = k.0 t },
    λ is.
        let same : is.token ≡ token = same_some (token_of value) is.token token is.has_token is_token in
        k.1 (subst (λ (t : List ℕ). IsGoodToken secret id second t) same is.good),
  )

  pub no_tag : (m : MessageText) → is_some (tag_in (value_of To m.headers)) ≡ false → IsTrue false ↔ IsOfDialog secret own route second m
  no_tag m h = (λ t. absurd (false_true t), λ is. absurd (differ (is_some (tag_in (value_of To m.headers))) h is.tag))

  pub no_route : (m : MessageText) → first_route m ≡ None → IsTrue false ↔ IsOfDialog secret own route second m
  no_route m h = (λ t. absurd (false_true t), λ is. absurd (none_some (first_route m) is.value h is.first))

  pub by_route : (m : MessageText) (id value : List ℕ) (known : Bool) → is_some (tag_in (value_of To m.headers)) ≡ true → first_route m ≡ Some value → id ≡ call_id m
      → IsTrue known ↔ IsOwnWithToken secret own route second id value → IsTrue known ↔ IsOfDialog secret own route second m
  by_route m id value known tag first is_id k = (
    λ t. record { tag = tag; value = value; first = first; known = subst (λ (i : List ℕ). IsOwnWithToken secret own route second i value) is_id (k.0 t) },
    λ is.
        let same : is.value ≡ value = same_some (first_route m) is.value value is.first first in
        let here = subst (λ (v : List ℕ). IsOwnWithToken secret own route second (call_id m) v) same is.known in
        k.1 (subst (λ (i : List ℕ). IsOwnWithToken secret own route second i value) (sym is_id) here),
  )

-- A request without its credentials for the realm of the proxy.
use Rattle.proxy_routing.proofs.Common.{◌≡◌, ◌∙◌, Bool, true, false, List, ℕ, Option, Some, refl, sym, ap, codes, MessageText, hops_name}
use Rattle.std.proofs.Common.{None, [], ◌∷◌, cond, inl, inr}
use Rattle.std.proofs.lemmas.Bool.{cond-false}
use Rattle.sip_text.specs.Name.{first_of, first_value, full_name, same_name, values_of}
use Rattle.sip_text.specs.Text.{HeaderText}
use Rattle.sip_via.specs.Edits.{with_headers}
use Rattle.sip_via.proofs.laws.Replaced.{apart}
use Rattle.sip_route.specs.Lines.{has_name, lines_among}
use Rattle.proxy_routing.proofs.laws.LineValues.{same_values}
use Rattle.sip_digest.specs.OwnCredentials.{IsTakenOff, IsWithoutCredentials}
use Rattle.proxy_routing.specs.OwnCredentials.{AreSameBut, IsWithoutOwnCredentials}

abbrev pub credentials : List ℕ
credentials = codes "proxy-authorization"

-- ---- the lines that are left

pub lines_without : (realm : List ℕ) (hs new : List HeaderText) → IsWithoutCredentials realm hs new → AreSameBut credentials new hs
lines_without realm [] new is other differ = ap (lines_among other) is
lines_without realm (h ∷ hs) new (inl (taken, rest)) other differ =
    lines_without realm hs new rest other differ
    ∙ sym (cond-false (has_name other h) (h ∷ lines_among other hs) (lines_among other hs) (apart credentials other h.name differ taken.0))
lines_without realm (h ∷ hs) new (inr (kept, more, same, rest)) other differ =
    ap (lines_among other) same
    ∙ ap (λ (ls : List HeaderText). cond (has_name other h) (h ∷ ls) ls) (lines_without realm hs more rest other differ)

one_without : (realm : List ℕ) (hs a b : List HeaderText) → IsWithoutCredentials realm hs a → IsWithoutCredentials realm hs b → a ≡ b
one_without realm [] a b x y = x ∙ sym y
one_without realm (h ∷ hs) a b (inl (taken, x)) (inl (also, y)) = one_without realm hs a b x y
one_without realm (h ∷ hs) a b (inl (taken, x)) (inr (kept, more, e, y)) = absurd (kept taken)
one_without realm (h ∷ hs) a b (inr (kept, more, e, x)) (inl (taken, y)) = absurd (kept taken)
one_without realm (h ∷ hs) a b (inr (kept, some, e, x)) (inr (also, more, f, y)) =
    e ∙ ap (λ (ls : List HeaderText). h ∷ ls) (one_without realm hs some more x y) ∙ sym f

-- ---- the request

pub one_left : (realm : Option (List ℕ)) (m a b : MessageText) → IsWithoutOwnCredentials realm m a → IsWithoutOwnCredentials realm m b → a ≡ b
one_left None m a b x y = x ∙ sym y
one_left (Some realm) m a b (some, x, e) (more, y, f) = e ∙ ap (with_headers m) (one_without realm m.headers some more x y) ∙ sym f

-- what is made of the other lines alone
pub kept_without : {X : Type 0} (f : MessageText → X) → ((m : MessageText) (lines : List HeaderText) → AreSameBut credentials lines m.headers → f (with_headers m lines) ≡ f m)
    → (realm : Option (List ℕ)) (m request : MessageText) → IsWithoutOwnCredentials realm m request → f request ≡ f m
kept_without f h None m request e = ap f e
kept_without f h (Some realm) m request (lines, is, e) = ap f e ∙ h m lines (lines_without realm m.headers lines is)

pub start_left : (realm : Option (List ℕ)) (m request : MessageText) → IsWithoutOwnCredentials realm m request → request.start ≡ m.start
start_left = kept_without (λ (x : MessageText). x.start) (λ m lines same. refl)

pub body_left : (realm : Option (List ℕ)) (m request : MessageText) → IsWithoutOwnCredentials realm m request → request.body ≡ m.body
body_left = kept_without (λ (x : MessageText). x.body) (λ m lines same. refl)

pub others_left : (realm : Option (List ℕ)) (m request : MessageText) (name : List ℕ) → IsWithoutOwnCredentials realm m request → same_name credentials name ≡ false
    → values_of name request.headers ≡ values_of name m.headers
others_left realm m request name is differ =
    kept_without (λ (x : MessageText). values_of name x.headers) (λ x lines same. same_values credentials lines x.headers same name differ) realm m request is

not_hops : same_name credentials hops_name ≡ false
unfolding full_name
not_hops = refl

pub hops_left : (realm : Option (List ℕ)) (m request : MessageText) → IsWithoutOwnCredentials realm m request → first_value hops_name request.headers ≡ first_value hops_name m.headers
hops_left realm m request is = ap first_of (others_left realm m request hops_name is not_hops)

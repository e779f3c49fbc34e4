-- The proxy's own Via value is a header value.
use Rattle.sip_via.proofs.Common.{◌≡◌, ℕ, ◌<◌, ◌^◌, Bool, true, false, not, eqb, List, [], ◌∷◌, ◌++◌, length, reverse, refl, ap, subst, ◌∙◌, arith, ◌&&◌, decimal, list_all, and_parts, eqb-true, false_from_ne_true, false≢true, digits_decimal}
use Rattle.sip_via.proofs.Common.{reverse-append, list_all-append, is_space, is_token_byte, token_byte-space, is_line, is_line_byte, is_trimmed, is_value, begins_with_space, and_both, Own, BranchName, branch_text, IsOwn, own_via, own, common_steps}
use Rattle.sip_uri.specs.declared.hop.Transport.{Transport}
use Rattle.sip_uri.specs.declared.hop.Transport.TheVariants.{Udp, Tcp, Back}
use Rattle.sip_via.specs.OwnVia.{over}
use Rattle.sip_via.proofs.laws.Marked.{address-line, decimal-line, line-append}

-- ---- texts without space

abbrev NoSpace : (ℕ → Bool) → Type 0
NoSpace p = (b : ℕ) → p b ≡ true → is_space b ≡ false

passes-front : (p : ℕ → Bool) → NoSpace p → (bs : List ℕ) → list_all p bs ≡ true → begins_with_space bs ≡ false
passes-front p other bs h = grind arith

all-reverse : (p : ℕ → Bool) (bs : List ℕ) → list_all p bs ≡ true → list_all p (reverse bs) ≡ true
all-reverse p [] h = refl
all-reverse p (b ∷ bs) h =
    let each = and_parts (p b) (list_all p bs) h in
    grind (arith, common_steps, reverse-append (b ∷ []) bs, list_all-append p (reverse bs) (b ∷ []), and_both (list_all p (reverse bs)) (list_all p (b ∷ [])) (all-reverse p bs each.1) (and_both (p b) true each.0 refl))

passes-back : (p : ℕ → Bool) → NoSpace p → (bs : List ℕ) → list_all p bs ≡ true → begins_with_space (reverse bs) ≡ false
passes-back p other bs h = passes-front p other (reverse bs) (all-reverse p bs h)

token-line : (bs : List ℕ) → list_all is_token_byte bs ≡ true → is_line bs ≡ true
token-line [] h = refl
token-line (b ∷ bs) h =
    let each = and_parts (is_token_byte b) (list_all is_token_byte bs) h in
    and_both (is_line_byte b) (is_line bs) (token_byte-line b each.0) (token-line bs each.1)
  where
    token_byte-line : (b : ℕ) → is_token_byte b ≡ true → is_line_byte b ≡ true
    token_byte-line b h =
        let no_cr = false_from_ne_true (eqb b 13) (λ e. let bad : is_token_byte 13 ≡ true = subst (λ x. is_token_byte x ≡ true) (eqb-true b 13 e) h in false≢true bad) in
        let no_lf = false_from_ne_true (eqb b 10) (λ e. let bad : is_token_byte 10 ≡ true = subst (λ x. is_token_byte x ≡ true) (eqb-true b 10 e) h in false≢true bad) in
        ap (λ x. not x && not (eqb b 10)) no_cr ∙ ap not no_lf

value-from : (v : List ℕ) → is_line v ≡ true → begins_with_space v ≡ false → begins_with_space (reverse v) ≡ false → is_value v ≡ true
value-from v l f b = and_both (is_line v) (is_trimmed v) l (and_both (not (begins_with_space v)) (not (begins_with_space (reverse v))) (ap not f) (ap not b))

pub decimal-value : (n : ℕ) → n < 2 ^ 64 → is_value (decimal n) ≡ true
decimal-value n small = grind (arith, digits_decimal, own, decimal-line, passes-back)

-- ---- the proxy's own Via

-- a text without space at its end
pub record IsEnd (bs : List ℕ) : Type 0 where
  pub some : 0 < length bs
  pub ends : begins_with_space (reverse bs) ≡ false

longer : (xs ys : List ℕ) → 0 < length ys → 0 < length (xs ++ ys)
longer xs ys some = grind (arith, common_steps)

pub end-behind : (xs ys : List ℕ) → IsEnd ys → IsEnd (xs ++ ys)
end-behind xs ys is = grind (arith, common_steps)

abbrev pub IsToken : BranchName → Type 0
IsToken b = list_all is_token_byte (branch_text b) ≡ true

branch-end : (b : BranchName) → IsToken b → IsEnd (branch_text b)
branch-end b is = record { some = omega arith; ends = passes-back is_token_byte token_byte-space (branch_text b) is }

good-over : (t : Transport) (proxy : Own) (b : BranchName) → IsOwn proxy → IsToken b → is_value (own_via (over proxy t) b) ≡ true
good-over Udp proxy b is named = grind (arith, common_steps, token-line (branch_text b) named, branch-end b named, line-append, decimal-line, address-line, end-behind, value-from)
good-over Tcp proxy b is named = grind (arith, common_steps, token-line (branch_text b) named, branch-end b named, line-append, decimal-line, address-line, end-behind, value-from)
good-over (Back sent_by) proxy b is named = grind (arith, common_steps, token-line (branch_text b) named, branch-end b named, line-append, decimal-line, address-line, end-behind, value-from)

pub own_via-good : (proxy : Own) (b : BranchName) → IsOwn proxy → IsToken b → is_value (own_via proxy b) ≡ true
own_via-good proxy b is named = good-over proxy.transport proxy b is named

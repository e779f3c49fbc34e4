-- Hosts by their form and by the test, and addresses by cuts.
use Rattle.sip_uri.proofs.Common.{◌≡◌, ◌≢◌, ℕ, suc, ◌+◌, Bool, true, false, not, eqb, ltb, List, [], ◌∷◌, ◌++◌, length, take, drop, Option, Some, None, refl, sym, ap, subst, ◌∙◌, arith, ◌&&◌, if◌then◌else◌, list_all, cond_both, eqb-true, and_parts}
use Rattle.sip_uri.proofs.Common.{false≢true, false_from_ne_true, behind, cut, is, pieces_behind, cut_again, cut_joins, Lacks-pass, pieces-cut, BeginsWithEnd, IsHost, LacksEnds, ends_host, host_len, is_address_byte, is_host, is_host_byte}
use Rattle.sip_uri.proofs.Common.{common_steps}
use Rattle.sip_uri.specs.Host.{IsReference, address_of, address_of_pieces, is_reference}
use Rattle.sip_uri.specs.inner.Host.{address_of_first}

abbrev Cut : Type 0
Cut = List ℕ × Option (List ℕ)

-- ---- addresses

of_first : (r : Cut) → address_of_pieces (r.0 ∷ pieces_behind 46 r.1) ≡ address_of_first r
of_first r = grind (arith, pieces-cut)

pub address_of-cut : (host : List ℕ) → address_of host ≡ address_of_first (cut (is 46) host)
address_of-cut host = ap address_of_pieces (pieces-cut 46 host) ∙ of_first (cut (is 46) host)

-- ---- hosts

pub full : (bs : List ℕ) → ltb 0 (length bs) ≡ true → bs ≢ []
full bs h = grind arith

pub full-ltb : (bs : List ℕ) → bs ≢ [] → ltb 0 (length bs) ≡ true
full-ltb bs h = grind (arith, common_steps)

reference : (b : ℕ) (bs : List ℕ) (r : Cut) → b ≡ 91 → bs ≡ r.0 ++ behind 93 r.1 → is_reference r ≡ true → IsReference (b ∷ bs)
reference b bs (inner, None) e join h = absurd (false≢true h)
reference b bs (inner, Some (c ∷ more)) e join h = absurd (false≢true h)
reference b bs (inner, Some []) e join h = grind arith

pub is_host-IsHost : (host : List ℕ) → is_host host ≡ true → IsHost host
is_host-IsHost [] h = absurd (false≢true h)
is_host-IsHost (b ∷ bs) h = grind (arith, cut_joins 93 bs)

-- a byte that passes is none that fails
pub other_than : (p : ℕ → Bool) (b c : ℕ) → p c ≡ false → p b ≡ true → eqb b c ≡ false
other_than p b c fails h = false_from_ne_true (eqb b c) (λ e. absurd (false≢true (sym fails ∙ ap p (sym (eqb-true b c e)) ∙ h)))

host_byte : (b : ℕ) → is_host_byte b ≡ true → eqb b 91 ≡ false
host_byte b h = false_from_ne_true (eqb b 91) (λ e. let bad : is_host_byte 91 ≡ true = subst (λ x. is_host_byte x ≡ true) (eqb-true b 91 e) h in absurd (false≢true bad))

of_reference : (inner : List ℕ) → inner ≢ [] → list_all is_address_byte inner ≡ true → is_host (91 ∷ (inner ++ 93 ∷ [])) ≡ true
of_reference inner ne h =
    ap is_reference (cut_again 93 inner (Some []) (Lacks-pass is_address_byte 93 inner refl h)) ∙ ap (λ t. t && list_all is_address_byte inner) (full-ltb inner ne) ∙ h

pub IsHost-is_host : (host : List ℕ) → IsHost host → is_host host ≡ true
IsHost-is_host host fact = grind (arith, of_reference)

-- ---- the host at the front of a text

abbrev step : Bool → ℕ → Bool
step inside b = if inside then not (eqb b 93) else eqb b 91

pub front_lacks : (inside : Bool) (bs : List ℕ) → LacksEnds inside (take (host_len inside bs) bs)
front_lacks inside [] = tt
front_lacks inside (b ∷ bs) =
    cond_both (not inside && ends_host b) 0 (1 + host_len (step inside b) bs) (λ (n : ℕ). LacksEnds inside (take n (b ∷ bs)))
    (λ e. tt)
    (λ e. let k : 1 + host_len (step inside b) bs ≡ suc (host_len (step inside b) bs) = omega arith in rw k (e, front_lacks (step inside b) bs))

pub rest_begins : (inside : Bool) (bs : List ℕ) → BeginsWithEnd (drop (host_len inside bs) bs)
rest_begins inside [] = tt
rest_begins inside (b ∷ bs) =
    cond_both (not inside && ends_host b) 0 (1 + host_len (step inside b) bs) (λ (n : ℕ). BeginsWithEnd (drop n (b ∷ bs)))
    (λ e. (and_parts (not inside) (ends_host b) e).1)
    (λ e. let k : 1 + host_len (step inside b) bs ≡ suc (host_len (step inside b) bs) = omega arith in rw k (rest_begins (step inside b) bs))

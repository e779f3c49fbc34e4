-- What the key of a request tells.
use Rattle.sip_route.proofs.Common.{◌≡◌, ℕ, ◌≤◌, Bool, true, false, List, [], ◌∷◌, ◌++◌, Option, Some, None, refl, sym, ap, subst, ◌∙◌, arith, append_assoc, IfSome, list_all, str_to_ascii_lowercase, and_parts, false≢true, sender_port, IsSameSender}
use Rattle.sip_route.proofs.Common.{key_text, key_with, via_key, to_ascii_lowercase, common_steps}
use Rattle.std.proofs.Common.{◌≢◌}
use Rattle.std.specs.Fmt.{decimal}
use Rattle.std.proofs.lemmas.Bool.{eqb-false}
use Rattle.sip_lex.specs.Cut.{Lacks}
use Rattle.sip_lex.specs.Number.{plain_number_within}
use Rattle.sip_lex.proofs.laws.Numbers.{decimal_lacks, number_read}
use Rattle.sip_uri.specs.Host.{IsHost, IsPort}
use Rattle.sip_via.specs.Received.{port_or_default}
use Rattle.sip_via.specs.ViaGrammar.{IsVia}
use Rattle.sip_via.specs.ViaParts.{ViaText, branch_of, port_if_any}

-- ---- a host has no space, in lower case either

lower-space : (b : ℕ) → to_ascii_lowercase b ≡ 32 → b ≡ 32
lower-space b = grind arith

lower-lacks : (p : ℕ → Bool) (bs : List ℕ) → p 32 ≡ false → list_all p bs ≡ true → Lacks 32 (str_to_ascii_lowercase bs)
lower-lacks p [] fails h = tt
lower-lacks p (b ∷ bs) fails h =
    let both = and_parts (p b) (list_all p bs) h in
    (λ e. false≢true (sym fails ∙ ap p (sym (lower-space b e)) ∙ both.0), lower-lacks p bs fails both.1)

host-lacks : (host : List ℕ) → IsHost host → Lacks 32 (str_to_ascii_lowercase host)
host-lacks host fact = grind (arith, common_steps, lower-lacks)

-- ---- a text cut at a mark

lacks-not : (m : ℕ) (front back : List ℕ) → Lacks m (front ++ m ∷ back) → ⊥
lacks-not m [] back h = h.0 refl
lacks-not m (b ∷ front) back h = lacks-not m front back h.1

first_is : (x y : ℕ) (xs ys : List ℕ) → x ∷ xs ≡ y ∷ ys → (x ≡ y) × (xs ≡ ys)
first_is x y xs ys e = (cc, cc)

-- at the first one
same-front : (m : ℕ) (a b x y : List ℕ) → Lacks m a → Lacks m b → a ++ m ∷ x ≡ b ++ m ∷ y → (a ≡ b) × (x ≡ y)
same-front m [] [] x y h k e = (refl, (first_is m m x y e).1)
same-front m [] (b ∷ bs) x y h k e = absurd (k.0 (sym (first_is m b x (bs ++ m ∷ y) e).0))
same-front m (a ∷ us) [] x y h k e = absurd (h.0 (first_is a m (us ++ m ∷ x) y e).0)
same-front m (a ∷ us) (b ∷ bs) x y h k e =
    let parts = first_is a b (us ++ m ∷ x) (bs ++ m ∷ y) e in
    let rest = same-front m us bs x y h.1 k.1 parts.1 in
    (ap (λ (zs : List ℕ). a ∷ zs) rest.0 ∙ ap (λ z. z ∷ bs) parts.0, rest.1)

-- at the last one
same-back : (m : ℕ) (a b x y : List ℕ) → Lacks m x → Lacks m y → a ++ m ∷ x ≡ b ++ m ∷ y → (a ≡ b) × (x ≡ y)
same-back m [] [] x y h k e = (refl, (first_is m m x y e).1)
same-back m [] (b ∷ bs) x y h k e = absurd (lacks-not m bs y (subst (λ (zs : List ℕ). Lacks m zs) (first_is m b x (bs ++ m ∷ y) e).1 h))
same-back m (a ∷ us) [] x y h k e = absurd (lacks-not m us x (subst (λ (zs : List ℕ). Lacks m zs) (sym (first_is a m (us ++ m ∷ x) y e).1) k))
same-back m (a ∷ us) (b ∷ bs) x y h k e =
    let parts = first_is a b (us ++ m ∷ x) (bs ++ m ∷ y) e in
    let rest = same-back m us bs x y h k parts.1 in
    (ap (λ (zs : List ℕ). a ∷ zs) rest.0 ∙ ap (λ z. z ∷ bs) parts.0, rest.1)

-- ---- the parts of a key

port-within : (o : Option (List ℕ)) → IfSome o IsPort → port_or_default (port_if_any o) ≤ 65535
port-within o h = grind arith

some_is : (x y : ℕ) (a b : Option ℕ) → a ≡ Some x → b ≡ Some y → a ≡ b → x ≡ y
some_is x y a b e f same = cc

same-number : (n k : ℕ) → n ≤ 65535 → k ≤ 65535 → decimal n ≡ decimal k → n ≡ k
same-number n k fits also e = some_is n k (plain_number_within 65535 (decimal n)) (plain_number_within 65535 (decimal k)) (number_read 65535 n fits (omega (arith, fits))) (number_read 65535 k also (omega (arith, also))) (ap (plain_number_within 65535) e)

key-split : (host : List ℕ) (port : ℕ) (branch : List ℕ) → key_text host port branch ≡ (str_to_ascii_lowercase host ++ 58 ∷ decimal port) ++ 32 ∷ branch
key-split host port branch = sym (append_assoc (str_to_ascii_lowercase host) (58 ∷ decimal port) (32 ∷ branch))

both-lack : (m : ℕ) (xs ys : List ℕ) → Lacks m xs → Lacks m ys → Lacks m (xs ++ ys)
both-lack m [] ys h k = k
both-lack m (x ∷ xs) ys h k = (h.0, both-lack m xs ys h.1 k)

front-lacks : (text : List ℕ) (v : ViaText) → IsVia text v → Lacks 32 (str_to_ascii_lowercase v.host ++ 58 ∷ decimal (sender_port v))
front-lacks text v is =
    let within = port-within v.port is.port in
    both-lack 32 (str_to_ascii_lowercase v.host) (58 ∷ decimal (sender_port v)) (host-lacks v.host is.host) (eqb-false 58 32 refl, decimal_lacks 32 (sender_port v) refl (omega (arith, within)))

same-texts : (text other : List ℕ) (a b : ViaText) (x y : List ℕ) → IsVia text a → IsVia other b → key_text a.host (sender_port a) x ≡ key_text b.host (sender_port b) y
    → (str_to_ascii_lowercase a.host ≡ str_to_ascii_lowercase b.host) × (sender_port a ≡ sender_port b) × (x ≡ y)
same-texts text other a b x y is also e =
    let first = port-within a.port is.port in
    let second = port-within b.port also.port in
    let halves = same-front 32 (str_to_ascii_lowercase a.host ++ 58 ∷ decimal (sender_port a)) (str_to_ascii_lowercase b.host ++ 58 ∷ decimal (sender_port b)) x y (front-lacks text a is) (front-lacks other b also) (sym (key-split a.host (sender_port a) x) ∙ e ∙ key-split b.host (sender_port b) y) in
    let sent = same-back 58 (str_to_ascii_lowercase a.host) (str_to_ascii_lowercase b.host) (decimal (sender_port a)) (decimal (sender_port b)) (decimal_lacks 58 (sender_port a) refl (omega (arith, first))) (decimal_lacks 58 (sender_port b) refl (omega (arith, second))) halves.0 in
    (sent.0, same-number (sender_port a) (sender_port b) first second sent.1, halves.1)

some_text : (x y : List ℕ) → Some x ≡ Some y → x ≡ y
some_text x y e = cc

same-with : (text other : List ℕ) (a b : ViaText) (x y : Option (List ℕ)) → IsVia text a → IsVia other b → branch_of a ≡ x → branch_of b ≡ y → key_with a x ≢ None → key_with a x ≡ key_with b y → IsSameSender a b
same-with text other a b None y is also e f some same = absurd (some refl)
same-with text other a b (Some x) None is also e f some same = absurd cc
same-with text other a b (Some x) (Some y) is also e f some same =
    let parts = same-texts text other a b x y is also (some_text (key_text a.host (sender_port a) x) (key_text b.host (sender_port b) y) same) in
    record { host = parts.0; port = parts.1; branch = e ∙ ap (λ (z : List ℕ). Some z) parts.2 ∙ sym f }

pub same_sender : (text other : List ℕ) (a b : ViaText) → IsVia text a → IsVia other b → via_key a ≢ None → via_key a ≡ via_key b → IsSameSender a b
same_sender text other a b is also some same = same-with text other a b (branch_of a) (branch_of b) is also refl refl some same

with_parts : (a b : ViaText) (x : Option (List ℕ)) → str_to_ascii_lowercase a.host ≡ str_to_ascii_lowercase b.host → sender_port a ≡ sender_port b → key_with a x ≡ key_with b x
with_parts a b x host port = grind arith

pub same_key : (a b : ViaText) → IsSameSender a b → via_key a ≡ via_key b
same_key a b same = with_parts a b (branch_of a) same.host same.port ∙ ap (key_with b) same.branch

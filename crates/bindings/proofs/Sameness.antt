-- Whether two requests are one, and two contacts name one binding: both ways alike, and of each with itself.
use Rattle.std.proofs.Common.{◌≡◌, ℕ, Bool, true, false, List, Option, Some, None, refl, sym, ap, ◌∙◌, arith}
use Rattle.std.specs.Prelude.{◌&&◌, ◌==◌}
use Rattle.std.specs.Str.{bytes_eq}
use Rattle.std.proofs.lemmas.Slice.Eq.{bytes_eq-Decides}
use Rattle.bindings.specs.Bindings.{Binding, Contact, RequestId, same_binding, same_by, same_if_any, same_request}
use Rattle.bindings.specs.History.{Differ}
use Rattle.bindings.proofs.Members.{not_both}

same_test : (a b : Bool) → (a ≡ true → b ≡ true) → (b ≡ true → a ≡ true) → a ≡ b
same_test true b f g = sym (f refl)
same_test false true f g = g refl
same_test false false f g = refl

bytes_both : (a b : List ℕ) → bytes_eq a b ≡ bytes_eq b a
bytes_both a b = same_test (bytes_eq a b) (bytes_eq b a) (λ e. (bytes_eq-Decides b a).1 (sym ((bytes_eq-Decides a b).0 e))) (λ e. (bytes_eq-Decides a b).1 (sym ((bytes_eq-Decides b a).0 e)))

bytes_same : (a : List ℕ) → bytes_eq a a ≡ true
bytes_same a = (bytes_eq-Decides a a).1 refl

number_both : (m n : ℕ) → (m == n) ≡ (n == m)
number_both m n = grind arith

number_same : (n : ℕ) → (n == n) ≡ true
number_same n = grind arith

and_both : (a b c d : Bool) → a ≡ c → b ≡ d → (a && b) ≡ (c && d)
and_both a b c d e f = ap (λ v. v && b) e ∙ ap (λ v. c && v) f

and_same : (a b : Bool) → a ≡ true → b ≡ true → (a && b) ≡ true
and_same a b e f = and_both a b true true e f

pub request_both : (a b : RequestId) → same_request a b ≡ same_request b a
request_both a b =
    and_both _ _ _ _ (and_both _ _ _ _ (bytes_both a.call_id b.call_id) (number_both a.cseq b.cseq)) (bytes_both a.key b.key)

pub request_same : (id : RequestId) → same_request id id ≡ true
request_same id = and_same _ _ (and_same _ _ (bytes_same id.call_id) (number_same id.cseq)) (bytes_same id.key)

if_any_both : (a b : Option (List ℕ)) → same_if_any a b ≡ same_if_any b a
if_any_both (Some a) (Some b) = bytes_both a b
if_any_both (Some a) None = refl
if_any_both None (Some b) = refl
if_any_both None None = refl

if_any_same : (a : Option (List ℕ)) → same_if_any a a ≡ true
if_any_same (Some a) = bytes_same a
if_any_same None = refl

by_both : (a b : Option (List ℕ)) (reg place reg' place' : Bool) → reg ≡ reg' → place ≡ place' → same_by a b reg place ≡ same_by b a reg' place'
by_both (Some a) (Some b) reg place reg' place' e f = and_both _ _ _ _ (bytes_both a b) e
by_both (Some a) None reg place reg' place' e f = f
by_both None (Some b) reg place reg' place' e f = f
by_both None None reg place reg' place' e f = f

by_same : (a : Option (List ℕ)) (reg place : Bool) → reg ≡ true → place ≡ true → same_by a a reg place ≡ true
by_same (Some a) reg place e f = and_same _ _ (bytes_same a) e
by_same None reg place e f = f

pub binding_both : (a b : Contact) → same_binding a b ≡ same_binding b a
binding_both a b =
    by_both a.instance b.instance _ _ _ _ (if_any_both a.reg_id b.reg_id) (and_both _ _ _ _ (bytes_both a.key b.key) (bytes_both a.hop.addr b.hop.addr))

binding_same : (a : Contact) → same_binding a a ≡ true
binding_same a = by_same a.instance _ _ (if_any_same a.reg_id) (and_same _ _ (bytes_same a.key) (bytes_same a.hop.addr))

pub never_differs : (b : Binding) → Differ b b → ⊥
never_differs b d = not_both (same_binding b.contact b.contact) (binding_same b.contact) (d (request_same b.by))

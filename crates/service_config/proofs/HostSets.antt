-- The addresses of hosts, where more come.
use Rattle.service_config.proofs.Common.{◌≡◌, ℕ, ◌+◌, ◌<◌, Bool, true, false, cond, List, length, refl, sym, ap, subst, ◌∙◌, arith, list_any, ◌==◌, ◌||◌}
use Rattle.std.proofs.Common.{Ordering, get_or, take}
use Rattle.std.specs.Prelude.{nat_lt}
use Rattle.std.specs.BTreeSet.{BTreeSet, Updates, contains}
use Rattle.std.specs.Ordering.{is_eq, nat_cmp}
use Rattle.std.proofs.lemmas.Bool.Decides.{nat_tests}
use Rattle.std.proofs.lemmas.List.Folds.{list_any_more}
use Rattle.proxy_config.specs.Setup.{Location}
use Rattle.service_config.specs.Settings.{Gateway}
use Rattle.service_config.specs.declared.hosts.Hosts.{Hosts}
use Rattle.service_config.specs.inner.Hosts.{AreHostsOf}

is_equal : (m n : ℕ) → is_eq (nat_cmp m n) ≡ (m == n)
is_equal m n = grind (arith, nat_tests)

cond_or : (b c : Bool) → cond b true c ≡ (b || c)
cond_or true c = refl
cond_or false c = refl

-- one address comes
pub number_added : (old new : BTreeSet ℕ) (number : ℕ) → Updates nat_cmp old new number true → (other : ℕ) → contains nat_cmp new other ≡ (number == other || contains nat_cmp old other)
number_added old new number updates other =
    updates.0 other ∙ ap (λ (b : Bool). cond b true (contains nat_cmp old other)) (is_equal number other) ∙ cond_or (number == other) (contains nat_cmp old other)

turn : (a b c : Bool) → (a || (b || c)) ≡ ((b || a) || c)
turn true true c = refl
turn true false c = refl
turn false true c = refl
turn false false c = refl

-- one more of a list
pub one_more : {X : Type 0} (p : X → Bool) (xs : List X) (i : ℕ) (x : X) → i < length xs → x ≡ get_or xs i x → (old start new : Bool) → old ≡ (list_any p (take i xs) || start) → new ≡ (p x || old)
    → new ≡ (list_any p (take (i + 1) xs) || start)
one_more p xs i x within is old start new before now =
    now
    ∙ ap (λ (b : Bool). p x || b) before
    ∙ turn (p x) (list_any p (take i xs)) start
    ∙ ap (λ (b : Bool). (list_any p (take i xs) || b) || start) (ap p is)
    ∙ ap (λ (b : Bool). b || start) (sym (list_any_more p xs i x within))

-- they are those of the same locations
pub hosts_stay : {A : Type 0} (new old : List Location) (gateways : List Gateway) (hosts : Hosts A) → new ≡ old → AreHostsOf old gateways hosts → AreHostsOf new gateways hosts
hosts_stay new old gateways hosts same are = subst (λ (ls : List Location). AreHostsOf ls gateways hosts) (sym same) are

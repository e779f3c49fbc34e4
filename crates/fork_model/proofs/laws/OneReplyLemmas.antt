-- A table whose stored answers arrived apart has one choice, and an event there one reply.
use Rattle.fork_model.proofs.Common.{◌≡◌, ◌≢◌, ℕ, Bool, true, false, List, Option, Some, None, refl, ap, arith, ◌∙◌, inl, inr, ◌⊎◌, Rules, Row, Table, Score, Event, next, Choice, Best, Only503, NoAnswer408, HasScore, IsFirst, IsChoice, Up, Nothing}
use Rattle.fork_model.proofs.Common.{Provisional, Success, Final, Reply, IsUp, IsReply, AreArrivals, rules}
use Rattle.fork_model.proofs.laws.OrderLemmas.{Before-total}

same_or : (a b : ℕ) → (a ≡ b) ⊎ (a ≢ b)
same_or a b = grind arith

first_same : (rules : Rules) (rows : List Row) (at : ℕ) → AreArrivals rows at → (n m : ℕ) (s k : Score) → IsFirst rules rows n s → IsFirst rules rows m k → n ≡ m
first_same rules rows at kept n m s k x y =
    elim (same_or s.arrival k.arrival) [
      | inl same ↦ kept.apart n m s k x.stored y.stored same
      | inr differ ↦ elim (Before-total rules s k differ) [
        | inl before ↦ absurd (y.first n s x.stored before)
        | inr before ↦ absurd (x.first m k y.stored before)
      ]
    ]

score_same : (rows : List Row) (n m : ℕ) (s k : Score) → HasScore rows n s → HasScore rows m k → n ≡ m → s ≡ k
score_same rows n m s k x y same = grind arith

apart_by_status : (s k : Score) → s ≡ k → s.status ≢ 503 → k.status ≡ 503 → ⊥
apart_by_status s k same differ is = differ (ap (λ (x : Score). x.status) same ∙ is)

pub one_choice : (rules : Rules) (rows : List Row) (at : ℕ) → AreArrivals rows at → (a b : Choice) → IsChoice rules rows a → IsChoice rules rows b → a ≡ b
one_choice rules rows at kept (Best n) (Best m) x y = ap Best (first_same rules rows at kept n m x.0 y.0 x.1 y.1)
one_choice rules rows at kept (Best n) (Only503 m) x y = search (rules, apart_by_status, score_same, first_same)
one_choice rules rows at kept (Best n) NoAnswer408 x y = absurd (y n x.0 x.1.stored)
one_choice rules rows at kept (Only503 n) (Best m) x y = search (rules, apart_by_status, score_same, first_same)
one_choice rules rows at kept (Only503 n) (Only503 m) x y = ap Only503 (first_same rules rows at kept n m x.0 y.0 x.1 y.1)
one_choice rules rows at kept (Only503 n) NoAnswer408 x y = absurd (y n x.0 x.1.stored)
one_choice rules rows at kept NoAnswer408 (Best m) x y = absurd (x m y.0 y.1.stored)
one_choice rules rows at kept NoAnswer408 (Only503 m) x y = absurd (x m y.0 y.1.stored)
one_choice rules rows at kept NoAnswer408 NoAnswer408 x y = refl

some_same : (n m : ℕ) (found : Option ℕ) → found ≡ Some n → found ≡ Some m → n ≡ m
some_same n m found x y = cc

some_none : (n : ℕ) (found : Option ℕ) → found ≡ Some n → found ≡ None → ⊥
some_none n found x y = cc

true_false : (b : Bool) → b ≡ true → b ≡ false → ⊥
true_false b x y = cc

one_up : (t new : Table) (event : Event) → ((a b : Choice) → IsChoice new.rules new.rows a → IsChoice new.rules new.rows b → a ≡ b)
    → (u v : Up) → IsUp t event new u → IsUp t event new v → u ≡ v
one_up t new event one (Provisional n) (Provisional m) x y = ap Provisional (some_same n m _ x y)
one_up t new event one (Provisional n) (Success m) x y = absurd (some_none n _ x y.0)
one_up t new event one (Provisional n) (Final b) x y = absurd (some_none n _ x y.0)
one_up t new event one (Provisional n) Nothing x y = absurd (some_none n _ x y.0)
one_up t new event one (Success n) (Provisional m) x y = absurd (some_none m _ y x.0)
one_up t new event one (Success n) (Success m) x y = ap Success (some_same n m _ x.1 y.1)
one_up t new event one (Success n) (Final b) x y = absurd (some_none n _ x.1 y.1)
one_up t new event one (Success n) Nothing x y = absurd (some_none n _ x.1 y.1)
one_up t new event one (Final a) (Provisional m) x y = absurd (some_none m _ y x.0)
one_up t new event one (Final a) (Success m) x y = absurd (some_none m _ y.1 x.1)
one_up t new event one (Final a) (Final b) x y = ap Final (one a b x.3 y.3)
one_up t new event one (Final a) Nothing x y = absurd (true_false _ x.2 y.2)
one_up t new event one Nothing (Provisional m) x y = absurd (some_none m _ y x.0)
one_up t new event one Nothing (Success m) x y = absurd (some_none m _ y.1 x.1)
one_up t new event one Nothing (Final b) x y = absurd (true_false _ y.2 x.2)
one_up t new event one Nothing Nothing x y = refl

pub one_reply : (t : Table) (event : Event) (at : ℕ)
    → ((a b : Choice) → IsChoice (next t event at).rules (next t event at).rows a → IsChoice (next t event at).rules (next t event at).rows b → a ≡ b)
    → (a b : Reply) → IsReply t event at a → IsReply t event at b → a ≡ b
one_reply t event at one a b x y = grind (arith, one_up)

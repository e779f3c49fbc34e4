-- What is handled and what is sent, by what an outcome says.
use Rattle.proxy_dispatch.proofs.Common.{◌≡◌, Option, Result, Ok, Err, sym, subst, Handled, Datagram}
use Rattle.std.specs.Prelude.{IfErr, IfOk}

pub outcome_at : (P : Handled → Option Datagram → Type 0) (handled h : Handled) (sent s : Option Datagram) → handled ≡ h → sent ≡ s → P h s → P handled sent
outcome_at P handled h sent s e f p =
    let Q : Handled → Type 0 = λ x. P x sent in
    let R : Option Datagram → Type 0 = λ x. P h x in
    subst Q (sym e) (subst R (sym f) p)

-- by two clauses of what was answered
pub by_both : {X Y : Type 0} (r : Result X Y) (P Q S : X → Type 0) → ((x : X) → P x → Q x → S x) → IfOk r P → IfOk r Q → IfOk r S
by_both (Ok x) P Q S f p q = f x p q
by_both (Err y) P Q S f p q = tt

-- by what was answered
pub ok_at : {X Y : Type 0} (r : Result X Y) (P : X → Type 0) (x : X) → r ≡ Ok x → IfOk r P → P x
ok_at {X = X} {Y = Y} r P x e h =
    let Q : Result X Y → Type 0 = λ s. IfOk s P in
    subst Q e h

pub err_at : {X Y : Type 0} (r : Result X Y) (P : Y → Type 0) (y : Y) → r ≡ Err y → IfErr r P → P y
err_at {X = X} {Y = Y} r P y e h =
    let Q : Result X Y → Type 0 = λ s. IfErr s P in
    subst Q e h

-- How many datagrams of one address are let in over a run.
use Rattle.std.proofs.Common.{◌≡◌, ◌∙◌, ℕ, ◌+◌, ◌-◌, ◌*◌, ◌≤◌, Bool, true, false, ◌&&◌, ◌==◌, cond, List, [], ◌∷◌, ap, refl, sym, subst, arith, mul-le-mul_left}
use Rattle.std.proofs.lemmas.Bool.{eqb-false, eqb-true}
use Rattle.std.specs.List.{AllByRecursion}
use Rattle.service_admission.specs.Limits.{Limits}
use Rattle.service_admission.specs.Runs.{AreLooks, Look, Looks, NoRunExceedsTheRate, let_in, spent}

-- so many were let in since the first moment, at most as many as is spent now and has come back
abbrev HasSpent : (l : Limits) (most first at address n : ℕ) → Type 0
HasSpent l most first at address n = (moment : ℕ) → at ≤ moment → 1000 * n ≤ spent l address moment + most * (moment - first)

abbrev Keeps : (l new : Limits) (now address : ℕ) → Type 0
Keeps l new now address = (moment : ℕ) → now ≤ moment → spent new address moment ≡ spent l address moment

kept_spent : (l new : Limits) (most first at now address n : ℕ) → at ≤ now → HasSpent l most first at address n → Keeps l new now address → HasSpent new most first now address n
kept_spent l new most first at now address n rises has keeps moment later =
    let before : 1000 * n ≤ spent l address moment + most * (moment - first) = has moment (omega arith) in
    let e : spent new address moment ≡ spent l address moment = keeps moment later in
    omega arith

-- what comes back until now and from now on
whole : (most first now moment : ℕ) → first ≤ now → now ≤ moment → most * (moment - now) + most * (now - first) ≡ most * (moment - first)
whole most first now moment a b =
    let parts : (moment - now) + (now - first) ≡ moment - first = omega arith in
    omega (arith, ap (λ (k : ℕ). most * k) parts)

module _ (most first last address : ℕ) (l new : Limits) (at n : ℕ) (look : Look) (rest : ℕ)
    (is : l.most ≡ most) (after : first ≤ at) (rises : at ≤ look.now) (ends : look.now ≤ last) (looked : Looks l look.now look.address look.counted new)
    (has : HasSpent l most first at address n) (few : 1000 * n ≤ 1000 * most + most * (last - first))
    (go : (k : ℕ) → HasSpent new most first look.now address k → 1000 * k ≤ 1000 * most + most * (last - first) → 1000 * (k + rest) ≤ 1000 * most + most * (last - first)) where
  start : first ≤ look.now
  start = omega arith

  stays : Keeps l new look.now address → 1000 * (n + rest) ≤ 1000 * most + most * (last - first)
  stays keeps = go n (kept_spent l new most first at look.now address n rises has keeps) few

  left : look.counted ≡ true → look.address ≡ address → spent l address look.now + 1000 ≤ most * 1000
  left counts own =
      let P : ℕ → Type 0 = λ a. spent l a look.now + 1000 ≤ l.most * 1000 in
      let Q : ℕ → Type 0 = λ k. spent l address look.now + 1000 ≤ k * 1000 in
      subst Q is (subst P own (looked.left counts))

  spends : look.counted ≡ true → look.address ≡ address → HasSpent new most first look.now address (1 + n)
  spends counts own moment later =
      let P : ℕ → Type 0 = λ a. spent l a look.now + 1000 ≤ spent new a moment + l.most * (moment - look.now) in
      let Q : ℕ → Type 0 = λ k. spent l address look.now + 1000 ≤ spent new address moment + k * (moment - look.now) in
      let paid : spent l address look.now + 1000 ≤ spent new address moment + most * (moment - look.now) = subst Q is (subst P own (looked.spends counts moment later)) in
      let back : most * (moment - look.now) + most * (look.now - first) ≡ most * (moment - first) = whole most first look.now moment start later in
      let known : 1000 * n ≤ spent l address look.now + most * (look.now - first) = has look.now rises in
      omega arith

  enough : look.counted ≡ true → look.address ≡ address → 1000 * (1 + n) ≤ 1000 * most + most * (last - first)
  enough counts own =
      let shorter : look.now - first ≤ last - first = omega arith in
      let back : most * (look.now - first) ≤ most * (last - first) = mul-le-mul_left most shorter in
      let known : 1000 * n ≤ spent l address look.now + most * (look.now - first) = has look.now rises in
      let least : spent l address look.now + 1000 ≤ most * 1000 = left counts own in
      omega arith

  one_more : (c e : Bool) → look.counted ≡ c → (look.address == address) ≡ e
      → 1000 * (n + cond {A = ℕ} (c && e) (1 + rest) rest) ≤ 1000 * most + most * (last - first)
  one_more true true counts own =
      let same : look.address ≡ address = eqb-true look.address address own in
      let one : 1000 * ((1 + n) + rest) ≤ 1000 * most + most * (last - first) = go (1 + n) (spends counts same) (enough counts same) in
      omega arith
  one_more true false counts own = stays (λ moment later. looked.others address moment (λ same. eqb-false look.address address own (sym same)) later)
  one_more false true counts own =
      let P : ℕ → Type 0 = λ a. (moment : ℕ) → look.now ≤ moment → spent new a moment ≡ spent l a moment in
      stays (subst P (eqb-true look.address address own) (looked.same counts))
  one_more false false counts own = stays (λ moment later. looked.others address moment (λ same. eqb-false look.address address own (sym same)) later)

bounded : (most first last address : ℕ) (l : Limits) (at n : ℕ) (looks : List Look) → l.most ≡ most → first ≤ at → AreLooks l at looks
    → AllByRecursion (λ (look : Look). look.now ≤ last) looks
    → HasSpent l most first at address n → 1000 * n ≤ 1000 * most + most * (last - first)
    → 1000 * (n + let_in address looks) ≤ 1000 * most + most * (last - first)
bounded most first last address l at n [] is after are all has few = omega (arith, few)
bounded most first last address l at n (look ∷ looks) is after (rises, new, looked, rest) all has few =
    one_more most first last address l new at n look (let_in address looks) is after rises all.0 looked has few
    (λ k spends enough. bounded most first last address new look.now k looks (looked.most ∙ is) (omega arith) rest all.1 spends enough)
    look.counted (look.address == address) refl refl

pub no_run_exceeds : NoRunExceedsTheRate
no_run_exceeds l first last address looks are all =
    let all_in : 1000 * (0 + let_in address looks) ≤ 1000 * l.most + l.most * (last - first) =
    bounded l.most first last address l first 0 looks refl (omega arith) are all (λ moment later. omega arith) (omega arith) in
    omega arith

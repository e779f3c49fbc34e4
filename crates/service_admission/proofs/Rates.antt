-- How many datagrams of one address are admitted within some milliseconds.
use Rattle.std.proofs.Common.{◌≡◌, ℕ, ◌+◌, ◌-◌, ◌*◌, ◌≤◌, max, Bool, true, false, cond, List, [], ◌∷◌, ap, refl, arith, leb-true, mul-le-mul_left}
use Rattle.std.specs.List.{AllByRecursion}
use Rattle.service_admission.specs.declared.bucket.TokenBucket.{TokenBucket}
use Rattle.service_admission.specs.Bucket.{admitted_of, has_left, spend, spent_at}

abbrev pub IsWithin : (first last now : ℕ) → Type 0
IsWithin first last now = (first ≤ now) × (now ≤ last)

-- what comes back from now on and what came back until now is what comes back in all
whole : (most last now since : ℕ) → now ≤ last → most * (last - max now since) + most * (now - since) ≡ most * (last - since)
whole most last now since before =
    let parts : (last - max now since) + (now - since) ≡ last - since = omega arith in
    omega (arith, ap (λ (k : ℕ). most * k) parts)

paid_step : (most last now more less : ℕ) (b : TokenBucket) (v : Bool) → has_left most now b ≡ v → now ≤ last
    → 1000 * less + b.spent ≤ 1000 * most + most * (last - b.since)
    → (spent_at most now b + 1000 ≤ most * 1000 → 1000 * more + (spent_at most now b + 1000) ≤ 1000 * most + most * (last - max now b.since))
    → 1000 * cond v (1 + more) less + b.spent ≤ 1000 * most + most * (last - b.since)
paid_step most last now more less b false is before refused admitted = refused
paid_step most last now more less b true is before refused admitted =
    let left : spent_at most now b + 1000 ≤ most * 1000 = leb-true (spent_at most now b + 1000) (most * 1000) is in
    let behind : 1000 * more + (spent_at most now b + 1000) ≤ 1000 * most + most * (last - max now b.since) = admitted left in
    let back : most * (last - max now b.since) + most * (now - b.since) ≡ most * (last - b.since) = whole most last now b.since before in
    omega arith

-- what is admitted beside what was spent is paid by the first datagrams and by what comes back
paid : (most first last : ℕ) (b : TokenBucket) (moments : List ℕ) → b.spent ≤ most * 1000 → AllByRecursion (IsWithin first last) moments
    → 1000 * admitted_of most b moments + b.spent ≤ 1000 * most + most * (last - b.since)
paid most first last b [] few all = omega arith
paid most first last b (now ∷ moments) few all =
    paid_step most last now (admitted_of most (spend most now b) moments) (admitted_of most b moments) b (has_left most now b) refl all.0.1
    (paid most first last b moments few all.1)
    (λ left. paid most first last (spend most now b) moments left all.1)

bound_step : (most first last now more less : ℕ) (b : TokenBucket) (v : Bool) → has_left most now b ≡ v → first ≤ now
    → 1000 * less ≤ 1000 * most + most * (last - first)
    → (spent_at most now b + 1000 ≤ most * 1000 → 1000 * more + (spent_at most now b + 1000) ≤ 1000 * most + most * (last - max now b.since))
    → 1000 * cond v (1 + more) less ≤ 1000 * most + most * (last - first)
bound_step most first last now more less b false is after refused admitted = refused
bound_step most first last now more less b true is after refused admitted =
    let left : spent_at most now b + 1000 ≤ most * 1000 = leb-true (spent_at most now b + 1000) (most * 1000) is in
    let behind : 1000 * more + (spent_at most now b + 1000) ≤ 1000 * most + most * (last - max now b.since) = admitted left in
    let shorter : last - max now b.since ≤ last - first = omega arith in
    let less_back : most * (last - max now b.since) ≤ most * (last - first) = mul-le-mul_left most shorter in
    omega arith

pub bounded : (most first last : ℕ) (b : TokenBucket) (moments : List ℕ) → AllByRecursion (IsWithin first last) moments
    → 1000 * admitted_of most b moments ≤ 1000 * most + most * (last - first)
bounded most first last b [] all = omega arith
bounded most first last b (now ∷ moments) all =
    bound_step most first last now (admitted_of most (spend most now b) moments) (admitted_of most b moments) b (has_left most now b) refl all.0.0
    (bounded most first last b moments all.1)
    (λ left. paid most first last (spend most now b) moments left all.1)

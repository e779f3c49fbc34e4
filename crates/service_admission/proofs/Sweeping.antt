-- An address that has spent nothing any more may be forgotten.
use Rattle.std.proofs.Common.{◌≡◌, ◌∙◌, ℕ, ◌-◌, ◌*◌, ◌≤◌, Bool, true, false, cond, List, Option, None, Some, unwrap_or, ap, refl, arith, ltb-false, mul-le-mul_left}
use Rattle.std.specs.Cmp.{nat_cmp_total}
use Rattle.std.specs.List.{IsDistinct}
use Rattle.std.specs.Map.{keys_of}
use Rattle.std.specs.Ordering.{eq_by_cmp, nat_cmp}
use Rattle.std.proofs.lemmas.Cmp.{eq_by_cmp_equiv}
use Rattle.std.proofs.lemmas.Map.Entries.{lookup-filter-values, option_filter}
use Rattle.service_admission.specs.declared.bucket.TokenBucket.{TokenBucket}
use Rattle.service_admission.specs.Bucket.{is_spent, spent_at, unspent}
use Rattle.service_admission.specs.Limits.{kept_at, spent_by, still_spent}

-- where nothing is spent at a moment, nothing is at a later one
nothing_later : (most now moment : ℕ) (b : TokenBucket) → now ≤ moment → is_spent most now b ≡ false → spent_at most moment b ≡ 0
nothing_later most now moment b later nothing =
    let further : now - b.since ≤ moment - b.since = omega arith in
    let more : most * (now - b.since) ≤ most * (moment - b.since) = mul-le-mul_left most further in
    let none : spent_at most now b ≤ 0 = ltb-false 0 (spent_at most now b) nothing in
    omega arith

decided : (most now moment : ℕ) (b : TokenBucket) (v : Bool) → now ≤ moment → is_spent most now b ≡ v
    → spent_at most moment (unwrap_or (cond v (Some b) None) unspent) ≡ spent_at most moment b
decided most now moment b true later is = refl
decided most now moment b false later is = let none : spent_at most moment b ≡ 0 = nothing_later most now moment b later is in omega arith

filtered : (most now moment : ℕ) (kept : Option TokenBucket) → now ≤ moment
    → spent_at most moment (unwrap_or (option_filter (is_spent most now) kept) unspent) ≡ spent_at most moment (unwrap_or kept unspent)
filtered most now moment None later = refl
filtered most now moment (Some b) later = decided most now moment b (is_spent most now b) later refl

pub same_spent : (most now : ℕ) (buckets : List (ℕ × TokenBucket)) (address moment : ℕ) → IsDistinct (eq_by_cmp nat_cmp) (keys_of buckets) → now ≤ moment
    → spent_by most (still_spent most now buckets) address moment ≡ spent_by most buckets address moment
same_spent most now buckets address moment distinct later =
    ap (λ (kept : Option TokenBucket). spent_at most moment (unwrap_or kept unspent)) (lookup-filter-values (eq_by_cmp_equiv nat_cmp_total) (is_spent most now) address buckets distinct)
    ∙ filtered most now moment (kept_at buckets address) later

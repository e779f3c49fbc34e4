-- What one look at a datagram makes of what is spent.
use Rattle.std.proofs.Common.{◌≡◌, ◌∙◌, ◌≢◌, ℕ, ◌+◌, ◌-◌, ◌*◌, ◌≤◌, max, Bool, true, false, not, ◌&&◌, ◌||◌, cond, ap, refl, sym, subst, arith, leb-true, mul-le-mul_left}
use Rattle.std.proofs.Common.{List, Option, Result, Ok, Err, unwrap_or}
use Rattle.std.specs.Prelude.{IfOk, OnErr, OnOk}
use Rattle.std.specs.BTreeMap.{insert_entry}
use Rattle.std.specs.Ordering.{nat_cmp}
use Rattle.service_admission.specs.declared.bucket.TokenBucket.{TokenBucket}
use Rattle.service_admission.specs.Bucket.{has_left, spend, spent_at, unspent}
use Rattle.service_admission.specs.Limits.{Limits, bucket_of, charged, charged_at, is_admitted, is_beyond, kept_at, spent_by, still_spent, swept_at}
use Rattle.service_admission.specs.Runs.{Looks, is_counted, spent}

-- a sweep changes no limit
pub swept_most : (now : ℕ) (l : Limits) → (swept_at now l).most ≡ l.most
swept_most now l = by _
  where
    by : (b : Bool) → (cond {A = Limits} b (record l { swept = now; buckets = still_spent l.most now l.buckets }) l).most ≡ l.most
    by true = refl
    by false = refl

-- a datagram that is spent is spent at each later moment, but for what came back
spent_on : (most now moment : ℕ) (b : TokenBucket) → now ≤ moment → spent_at most now b + 1000 ≤ spent_at most moment (spend most now b) + most * (moment - now)
spent_on most now moment b later =
    let fewer : moment - max now b.since ≤ moment - now = omega arith in
    let less : most * (moment - max now b.since) ≤ most * (moment - now) = mul-le-mul_left most fewer in
    omega arith

module _ (now address : ℕ) (old new : Limits)
    (same : (a moment : ℕ) → now ≤ moment → spent (swept_at now old) a moment ≡ spent old a moment) (most : new.most ≡ old.most)
    (others : (other moment : ℕ) → other ≢ address → now ≤ moment → spent new other moment ≡ spent old other moment) where
  -- it does not count, and nothing is spent
  pub uncounted : new.buckets ≡ (swept_at now old).buckets → Looks old now address false new
  uncounted is = record {
    most = most;
    left = λ e. absurd cc;
    spends = λ e. absurd cc;
    same = λ e moment later.
        ap (λ (k : ℕ). spent_by k new.buckets address moment) (most ∙ sym (swept_most now old))
        ∙ ap (λ (bs : List (ℕ × TokenBucket)). spent_by (swept_at now old).most bs address moment) is
        ∙ same address moment later;
    others = others;
  }

  -- it counts
  counted : has_left (swept_at now old).most now (bucket_of (swept_at now old).buckets address) ≡ true
      → bucket_of new.buckets address ≡ spend (swept_at now old).most now (bucket_of (swept_at now old).buckets address)
      → Looks old now address true new
  counted has own =
      let swept = swept_at now old in
      let b = bucket_of swept.buckets address in
      let m : swept.most ≡ old.most = swept_most now old in
      let is_now : spent_at swept.most now b ≡ spent old address now = same address now (omega arith) in
      record {
        most = most;
        left = λ e.
            let before : spent_at swept.most now b + 1000 ≤ swept.most * 1000 = leb-true (spent_at swept.most now b + 1000) (swept.most * 1000) has in
            let P : ℕ → Type 0 = λ k. spent old address now + 1000 ≤ k * 1000 in
            let Q : ℕ → Type 0 = λ k. k + 1000 ≤ swept.most * 1000 in
            subst P m (subst Q is_now before);
        spends = λ e moment later.
            let on : spent_at swept.most now b + 1000 ≤ spent_at swept.most moment (spend swept.most now b) + swept.most * (moment - now) = spent_on swept.most now moment b later in
            let Q : ℕ → Type 0 = λ k. k + 1000 ≤ spent_at swept.most moment (spend swept.most now b) + swept.most * (moment - now) in
            let R : TokenBucket → Type 0 = λ x. spent old address now + 1000 ≤ spent_at swept.most moment x + swept.most * (moment - now) in
            let there : spent old address now + 1000 ≤ spent_at swept.most moment (bucket_of new.buckets address) + swept.most * (moment - now) =
            subst R (sym own) (subst Q is_now on) in
            let M : ℕ → Type 0 = λ k. spent old address now + 1000 ≤ spent_at k moment (bucket_of new.buckets address) + swept.most * (moment - now) in
            let N : ℕ → Type 0 = λ k. spent old address now + 1000 ≤ spent new address moment + k * (moment - now) in
            subst N m (subst M (m ∙ sym most) there);
        same = λ e. absurd cc;
        others = others;
      }

  -- what was answered says which
  pub looked : (admitted : Bool)
      → admitted ≡ is_admitted (swept_at now old).most now (swept_at now old).buckets address
      → new.buckets ≡ charged (swept_at now old).most now (swept_at now old).buckets address
      → (is_beyond (swept_at now old).buckets address ≡ false → has_left (swept_at now old).most now (bucket_of (swept_at now old).buckets address) ≡ true
      → bucket_of new.buckets address ≡ spend (swept_at now old).most now (bucket_of (swept_at now old).buckets address))
      → Looks old now address (is_counted old now address admitted) new
  looked admitted answer is own = by (is_beyond swept.buckets address) (has_left swept.most now (bucket_of swept.buckets address)) admitted refl refl answer is
    where
      swept : Limits
      swept = swept_at now old

      by : (beyond left said : Bool) → is_beyond swept.buckets address ≡ beyond → has_left swept.most now (bucket_of swept.buckets address) ≡ left
          → said ≡ (beyond || left)
          → new.buckets ≡ cond {A = List (ℕ × TokenBucket)} beyond swept.buckets (cond {A = List (ℕ × TokenBucket)} left (insert_entry nat_cmp swept.buckets address (spend swept.most now (bucket_of swept.buckets address))) swept.buckets)
          → Looks old now address (said && not beyond) new
      by true left true is_beyond_so is_left_so said same_buckets = uncounted same_buckets
      by true left false is_beyond_so is_left_so said same_buckets = absurd cc
      by false true true is_beyond_so is_left_so said spends = counted is_left_so (own is_beyond_so is_left_so)
      by false true false is_beyond_so is_left_so said spends = absurd cc
      by false false true is_beyond_so is_left_so said same_buckets = absurd cc
      by false false false is_beyond_so is_left_so said same_buckets = uncounted same_buckets

-- ---- as `admits` goes

module _ (now address : ℕ) (old mid new : Limits) (is : mid ≡ swept_at now old)
    (same : (a moment : ℕ) → now ≤ moment → spent mid a moment ≡ spent old a moment) (most : new.most ≡ mid.most)
    (kept : (other : ℕ) → other ≢ address → kept_at new.buckets other ≡ kept_at mid.buckets other) where
  pub others_same : (other moment : ℕ) → other ≢ address → now ≤ moment → spent new other moment ≡ spent old other moment
  others_same other moment apart later =
      ap (λ (k : ℕ). spent_by k new.buckets other moment) most
      ∙ ap (λ (k : Option TokenBucket). spent_at mid.most moment (unwrap_or k unspent)) (kept other apart)
      ∙ same other moment later

  swept_same : (a moment : ℕ) → now ≤ moment → spent (swept_at now old) a moment ≡ spent old a moment
  swept_same a moment later = ap (λ (l : Limits). spent l a moment) (sym is) ∙ same a moment later

  new_most : new.most ≡ old.most
  new_most = most ∙ ap (λ (l : Limits). l.most) is ∙ swept_most now old

  pub looked_ok : {E : Type 0} → (r : Result Bool E)
      → IfOk r (λ admitted. admitted ≡ is_admitted mid.most now mid.buckets address)
      → OnOk r (new.buckets ≡ charged mid.most now mid.buckets address)
      → OnOk r (is_beyond mid.buckets address ≡ false → has_left mid.most now (bucket_of mid.buckets address) ≡ true
      → bucket_of new.buckets address ≡ spend mid.most now (bucket_of mid.buckets address))
      → IfOk r (λ admitted. Looks old now address (is_counted old now address admitted) new)
  looked_ok (Ok admitted) answer ok own =
      let A : Limits → Type 0 = λ l. admitted ≡ is_admitted l.most now l.buckets address in
      let B : Limits → Type 0 = λ l. new.buckets ≡ charged l.most now l.buckets address in
      let C : Limits → Type 0 = λ l.
      is_beyond l.buckets address ≡ false → has_left l.most now (bucket_of l.buckets address) ≡ true
      → bucket_of new.buckets address ≡ spend l.most now (bucket_of l.buckets address) in
      looked now address old new swept_same new_most others_same admitted (subst A is answer) (subst B is ok) (subst C is own)
  looked_ok (Err e) answer ok own = tt

  pub looked_err : {E : Type 0} → (r : Result Bool E) → OnErr r (new.buckets ≡ mid.buckets) → OnErr r (Looks old now address false new)
  looked_err (Ok admitted) err = tt
  looked_err (Err e) err = uncounted now address old new swept_same new_most others_same (err ∙ ap (λ (l : Limits). l.buckets) is)

-- What one address has spent. It may have `most` datagrams at once, and `most` more each second: in thousandths of a datagram
-- `most` come back each millisecond, so that nothing is rounded.
use Rattle.std.specs.Prelude.{ℕ, ◌+◌, ◌-◌, ◌*◌, max, nat_le, nat_lt, Bool, List, [], ◌∷◌, if◌then◌else◌}
use Rattle.service_admission.specs.declared.bucket.TokenBucket.{TokenBucket}

-- nothing is spent
abbrev pub unspent : TokenBucket
unspent = record { spent = 0; since = 0 }

-- what is still spent at a moment, in thousandths of a datagram
abbrev pub spent_at : (most now : ℕ) → TokenBucket → ℕ
spent_at most now bucket = bucket.spent - most * (now - bucket.since)

abbrev pub is_spent : (most now : ℕ) → TokenBucket → Bool
is_spent most now bucket = nat_lt 0 (spent_at most now bucket)

-- of the `most` datagrams a whole one is left
abbrev pub has_left : (most now : ℕ) → TokenBucket → Bool
has_left most now bucket = nat_le (spent_at most now bucket + 1000) (most * 1000)

-- one more is spent
abbrev pub spend : (most now : ℕ) → TokenBucket → TokenBucket
spend most now bucket = record { spent = spent_at most now bucket + 1000; since = max now bucket.since }

-- how many are admitted of the datagrams of one address that come at these moments, one after another
abbrev pub admitted_of : (most : ℕ) → TokenBucket → List ℕ → ℕ
admitted_of most bucket [] = 0
admitted_of most bucket (now ∷ moments) =
    if has_left most now bucket then 1 + admitted_of most (spend most now bucket) moments
    else admitted_of most bucket moments

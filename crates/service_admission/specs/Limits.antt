-- The addresses that have spent datagrams, and what each has spent.
use Rattle.std.specs.Prelude.{ℕ, ◌-◌, nat_le, Bool, not, ◌&&◌, ◌||◌, List, length, unwrap_or, is_some, Option, if◌then◌else◌}
use Rattle.std.specs.BTreeMap.{insert_entry, is_at}
use Rattle.std.specs.Int.{from_be_bytes, w32}
use Rattle.std.specs.List.{filter}
use Rattle.std.specs.Map.{lookup}
use Rattle.std.specs.Ordering.{nat_cmp}
use Rattle.service_admission.specs.declared.bucket.TokenBucket.{TokenBucket}
use Rattle.service_admission.specs.Bucket.{has_left, is_spent, spend, spent_at, unspent}

-- each address that is kept, as a number, with what it has spent
abbrev pub Buckets : Type 0
Buckets = List (ℕ × TokenBucket)

pub record Limits : Type 0 where
  -- how many datagrams an address may have at once, and in each second
  pub most : ℕ
  -- the millisecond at which addresses that have spent nothing any more were forgotten last
  pub swept : ℕ
  pub buckets : Buckets

-- no more addresses are kept
abbrev pub most_addresses : ℕ
most_addresses = 65536

-- the four bytes of an address as one number, the first byte the highest
abbrev pub address_of : List ℕ → ℕ
address_of source = from_be_bytes w32 source

abbrev pub kept_at : Buckets → ℕ → Option TokenBucket
kept_at buckets address = lookup (is_at (nat_cmp address)) buckets

-- an address that is not kept has spent nothing
abbrev pub bucket_of : Buckets → ℕ → TokenBucket
bucket_of buckets address = unwrap_or (kept_at buckets address) unspent

-- what an address has spent at a moment, in thousandths of a datagram
abbrev pub spent_by : (most : ℕ) → Buckets → (address moment : ℕ) → ℕ
spent_by most buckets address moment = spent_at most moment (bucket_of buckets address)

-- the addresses that have spent something still
abbrev pub still_spent : (most now : ℕ) → Buckets → Buckets
still_spent most now buckets = filter (λ e. is_spent most now e.1) buckets

-- once a second the others are forgotten
abbrev pub swept_at : ℕ → Limits → Limits
swept_at now l =
    if nat_le 1000 (now - l.swept) then record l { swept = now; buckets = still_spent l.most now l.buckets } else l

-- it is not kept, and there is no room for it
abbrev pub is_beyond : Buckets → ℕ → Bool
is_beyond buckets address = not (is_some (kept_at buckets address)) && nat_le most_addresses (length buckets)

-- an address is admitted while it has a datagram left; one for which there is no room always
abbrev pub is_admitted : (most now : ℕ) → Buckets → ℕ → Bool
is_admitted most now buckets address = is_beyond buckets address || has_left most now (bucket_of buckets address)

-- what a datagram that is admitted leaves; one that is not spends nothing
abbrev pub charged : (most now : ℕ) → Buckets → ℕ → Buckets
charged most now buckets address =
    if is_beyond buckets address then buckets
    else (if has_left most now (bucket_of buckets address)
    then insert_entry nat_cmp buckets address (spend most now (bucket_of buckets address))
    else buckets)

abbrev pub charged_at : ℕ → Limits → ℕ → Limits
charged_at now l address = record l { buckets = charged l.most now l.buckets address }

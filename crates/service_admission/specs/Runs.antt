-- What a limit lets in of one address over a run of datagrams, those of other addresses among them.
use Rattle.std.specs.Prelude.{◌≡◌, ◌≢◌, ◌+◌, ◌-◌, ◌*◌, ◌≤◌, ◌==◌, ◌&&◌, ℕ, Bool, not, true, false, List, [], ◌∷◌, if◌then◌else◌}
use Rattle.std.specs.List.{AllByRecursion}
use Rattle.service_admission.specs.Limits.{Limits, is_beyond, spent_by, swept_at}

-- what an address has spent at a moment
abbrev pub spent : Limits → (address moment : ℕ) → ℕ
spent l address moment = spent_by l.most l.buckets address moment

-- a datagram counts where it was admitted, and its address was kept or there was room to keep it
abbrev pub is_counted : Limits → (now address : ℕ) → (admitted : Bool) → Bool
is_counted l now address admitted = admitted && not (is_beyond (swept_at now l).buckets address)

-- a datagram of this address was looked at: where it counts, there was one left for it, and at each later moment so much more is
-- spent as has not come back since; where it does not, and of each other address, what is spent stays
pub record Looks (l : Limits) (now address : ℕ) (counted : Bool) (new : Limits) : Type 0 where
  pub most : new.most ≡ l.most
  pub left : counted ≡ true → spent l address now + 1000 ≤ l.most * 1000
  pub spends : counted ≡ true → (moment : ℕ) → now ≤ moment → spent l address now + 1000 ≤ spent new address moment + l.most * (moment - now)
  pub same : counted ≡ false → (moment : ℕ) → now ≤ moment → spent new address moment ≡ spent l address moment
  pub others : (other moment : ℕ) → other ≢ address → now ≤ moment → spent new other moment ≡ spent l other moment

pub record Look : Type 0 where
  pub now : ℕ
  pub address : ℕ
  pub counted : Bool

-- one after another, and the time does not fall
abbrev pub AreLooks : Limits → (at : ℕ) → List Look → Type 0
AreLooks l at [] = Unit {0}
AreLooks l at (look ∷ looks) = (at ≤ look.now) × (new : Limits) × Looks l look.now look.address look.counted new × AreLooks new look.now looks

-- how many datagrams of an address counted
abbrev pub let_in : (address : ℕ) → List Look → ℕ
let_in address [] = 0
let_in address (look ∷ looks) = if look.counted && (look.address == address) then 1 + let_in address looks else let_in address looks

-- ---- law

-- of those that come between two moments
abbrev pub NoRunExceedsTheRate : Type 0
NoRunExceedsTheRate =
    (l : Limits) (first last address : ℕ) (looks : List Look) → AreLooks l first looks → AllByRecursion (λ (look : Look). look.now ≤ last) looks
    → 1000 * let_in address looks ≤ 1000 * l.most + l.most * (last - first)

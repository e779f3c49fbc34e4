-- When a service that is told to stop ends. Moments are in milliseconds.
use Rattle.std.specs.Prelude.{◌≡◌, ◌≤◌, ◌+◌, ◌⊎◌, ℕ, true, false, Option, IfSome}
use Rattle.service_admission.specs.declared.draining.Draining.{Draining}
use Rattle.service_admission.specs.declared.draining.Seen.{Seen}

-- the ACK of the last 2xx has come, or comes no more: 64 times T1 have passed (RFC 3261 section 13.3.1.4)
abbrev pub IsAcknowledged : Option ℕ → ℕ → Type 0
IsAcknowledged last_success now = IfSome last_success (λ last. last + 32000 ≤ now)

-- nothing is open or being opened, it has answered for two seconds that it stops, and the proxy is on the path of no ACK that may come
pub record MayEnd (draining : Draining) (seen : Seen) (now : ℕ) : Type 0 where
  pub idle : seen.is_busy ≡ false
  pub closed : seen.has_open ≡ false
  pub told : draining.since + 2000 ≤ now
  pub acknowledged : draining.records ≡ true → IsAcknowledged seen.last_success now

-- its time is over, or it may end before
abbrev pub Ends : Draining → Seen → ℕ → Type 0
Ends draining seen now = (draining.until ≤ now) ⊎ MayEnd draining seen now

-- Until when is waited, in milliseconds: where memory was refused, and for a call that is due later.
use Rattle.std.specs.Prelude.{◌+◌, ◌-◌, ◌*◌, ◌/◌, ◌^◌, ℕ, Bool, Option, Some, None, max, min, if◌then◌else◌}

-- 10, 20, 40 and so on, up to 5,000; before the first there was none
abbrev pub wait_behind : ℕ → ℕ
wait_behind before = min (max (before * 2) 10) 5000

-- the first step of 20 at a moment or behind it, within 64 bits
abbrev pub step_from : ℕ → ℕ
step_from moment = min ((moment + 19) / 20 * 20) (2 ^ 64 - 1)

-- when something comes of a tick where each branch has ended: of a request other than INVITE, whose branches wait for timer K alone
-- (RFC 3261 section 17.1.2.2), as its server transaction ends, if that waits
abbrev pub ends_at : (is_invite : Bool) → (server_due : Option ℕ) → (due : ℕ) → ℕ
ends_at is_invite None due = due
ends_at is_invite (Some at) due = if is_invite then due else at

-- when a call is looked at that is due at a moment: where each branch has ended, at a step
abbrev pub look_at : (has_ended is_invite : Bool) → (server_due : Option ℕ) → (due : ℕ) → ℕ
look_at has_ended is_invite server_due due = if has_ended then step_from (ends_at is_invite server_due due) else due

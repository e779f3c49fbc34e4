-- For how long a contact is bound (RFC 3261 section 10.2.1.1).
use Rattle.std.specs.Prelude.{ℕ, ◌-◌, ◌^◌, min, List, Option, Some, None, length, nat_le, if◌then◌else◌}
use Rattle.sip_lex.specs.Number.{number_within}
use Rattle.registrar.specs.declared.expirations.AskedExpirations.{AskedExpirations}

-- the seconds that a text says, in one to ten digits
abbrev pub seconds_said : List ℕ → Option ℕ
seconds_said text = if nat_le (length text) 10 then number_within (10 ^ 10 - 1) text else None

-- at most so many, and those that are usual where none are said
abbrev pub within : AskedExpirations → Option ℕ → ℕ
within e None = e.usual
within e (Some seconds) = min seconds e.most

abbrev pub seconds_if_any : Option (List ℕ) → Option ℕ
seconds_if_any None = None
seconds_if_any (Some text) = seconds_said text

-- by the value of its parameter `expires`, where it has one, else by the Expires of the request
abbrev pub time_by : AskedExpirations → (param : Option (Option (List ℕ))) → (header : Option (List ℕ)) → ℕ
time_by e (Some value) header = within e (seconds_if_any value)
time_by e None header = within e (seconds_if_any header)

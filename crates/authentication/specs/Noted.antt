-- Whose credentials are noted as wrong where a request is refused for them.
use Rattle.std.specs.Prelude.{ℕ, List, Option, Some, None}
use Rattle.authentication.specs.Standing.{Standing, Unasked, Anonymous, Unusable, Stale, Wrong, Right}

-- their nonce is good
abbrev pub noted : Standing → Option (List ℕ)
noted Unasked = None
noted Anonymous = None
noted Unusable = None
noted Stale = None
noted (Wrong name) = Some name
noted (Right name) = Some name

-- The parameters of an address in a header field by their names (RFC 3261 section 25.1).
use Rattle.std.specs.Prelude.{ℕ, List, find, Option}
use Rattle.sip_lex.specs.Params.{is_named}

-- the first of this name
abbrev pub param_named : List ℕ → List (List ℕ) → Option (List ℕ)
param_named name params = find (is_named name) params

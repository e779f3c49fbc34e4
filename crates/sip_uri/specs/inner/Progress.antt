-- Parameters from left to right: how much of one was read.
use Rattle.std.specs.Prelude.{ℕ, Bool, true, false, ◌==◌, if◌then◌else◌}
use Rattle.sip_uri.specs.declared.checks.Progress.{Progress}
use Rattle.sip_uri.specs.declared.checks.Progress.TheVariants.{Begun, Named, Valueless, Valued, Broken}
use Rattle.sip_uri.specs.Grammar.{is_uri_byte}

-- the name may end, and the value
abbrev pub is_whole : Progress → Bool
is_whole Named = true
is_whole Valued = true
is_whole _ = false

-- `;` begins the next parameter
abbrev pub behind_semicolon : Progress → Progress
behind_semicolon progress = if is_whole progress then Begun else Broken

abbrev pub behind_other : Progress → ℕ → Progress
behind_other Begun b = if b == 61 then Broken else Named
behind_other Named b = if b == 61 then Valueless else Named
behind_other Valueless b = Valued
behind_other Valued b = Valued
behind_other Broken b = Broken

abbrev pub progress_after : Progress → ℕ → Progress
progress_after progress b = if is_uri_byte b then (if b == 59 then behind_semicolon progress else behind_other progress b) else Broken

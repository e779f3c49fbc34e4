-- Whether a request passed this proxy before (RFC 3261 sections 16.3 step 4 and 16.6 step 8).
use Rattle.std.specs.List.{Any}
use Rattle.sip_text.specs.Text.{MessageText}
use Rattle.sip_via.specs.declared.own.Own.{Own}
use Rattle.sip_via.specs.OwnPass.{IsOwnPass}
use Rattle.sip_via.specs.TopVia.{via_values}
use Rattle.sip_route.specs.Loop.{loop_key}

-- one of the Via values is such; a value that can't be read is passed over
abbrev pub IsLoop : MessageText → Own → Type 0
IsLoop m own = Any (λ value. IsOwnPass own (loop_key m) value) (via_values m)

use Rattle.sip_route.proofs.Common.{◌≡◌, take, str_to_ascii_lowercase}
use Rattle.sip_route.proofs.request_key.behind_lowered.Given as goal

abbrev pub invariant-loop-i : goal.invariant-loop-i
invariant-loop-i l = take l.i l.text ≡ str_to_ascii_lowercase (take l.i l.front)

use Rattle.sip_uri.proofs.Common.{◌≡◌, ◌+◌, false, drop, host_len}
use Rattle.sip_uri.proofs.host.host_len.Given as goal

abbrev pub invariant-loop-i : goal.invariant-loop-i
invariant-loop-i l = l.i + host_len l.inside (drop l.i l.text) ≡ host_len false l.text

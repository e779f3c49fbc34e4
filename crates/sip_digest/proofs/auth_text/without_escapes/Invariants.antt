use Rattle.sip_digest.proofs.Common.{◌≡◌, ◌++◌, false, drop, unescaped}
use Rattle.sip_digest.proofs.auth_text.without_escapes.Given as goal

abbrev pub invariant-loop-byte : goal.invariant-loop-byte
invariant-loop-byte g l = l.made.items ++ unescaped l.escaped (drop l.byte-index l.text) ≡ unescaped false l.text

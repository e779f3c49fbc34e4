use Rattle.sip_lex.proofs.Common.{◌≡◌, ◌+◌, false, drop, quoted_len}
use Rattle.sip_lex.proofs.quoted.quoted_len.Given as goal

abbrev pub invariant-loop-i : goal.invariant-loop-i
invariant-loop-i l = l.i + quoted_len l.escaped (drop l.i l.text) ≡ quoted_len false l.text

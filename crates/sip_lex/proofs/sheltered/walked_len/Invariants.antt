use Rattle.sip_lex.proofs.Common.{◌≡◌, ◌+◌, drop, Plain, outside_len}
use Rattle.sip_lex.proofs.sheltered.walked_len.Given as goal

abbrev pub invariant-loop-i : goal.invariant-loop-i
invariant-loop-i l = l.i + outside_len l.shelter l.mark l.place (drop l.i l.text) ≡ outside_len l.shelter l.mark Plain l.text

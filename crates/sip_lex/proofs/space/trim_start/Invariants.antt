use Rattle.sip_lex.proofs.Common.{◌≡◌, length, trim_start}
use Rattle.sip_lex.proofs.space.trim_start.Given as goal

abbrev pub invariant-loop-rest : goal.invariant-loop-rest
invariant-loop-rest l = trim_start l.rest ≡ trim_start l.text

abbrev pub decreases-loop-rest : goal.decreases-loop-rest
decreases-loop-rest l = length l.rest

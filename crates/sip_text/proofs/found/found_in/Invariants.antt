use Rattle.sip_text.proofs.Common.{headers_in, take}
use Rattle.sip_text.specs.inner.Found.{Finds}
use Rattle.sip_text.proofs.found.found_in.Given as goal

abbrev pub invariant-loop-line : goal.invariant-loop-line
invariant-loop-line l = Finds l.text (headers_in l.text (take l.line-index l.lines)) l.found

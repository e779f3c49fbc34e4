use Rattle.sip_lex.proofs.Common.{◌≡◌, ◌+◌, ◌-◌, ◌≤◌, length, take, is_space, suffix_len}
use Rattle.sip_lex.proofs.space.trim_end.Given as goal

abbrev pub invariant-loop-n : goal.invariant-loop-n
invariant-loop-n l = (l.n ≤ length l.text) × (suffix_len is_space (take l.n l.text) + (length l.text - l.n) ≡ suffix_len is_space l.text)

abbrev pub decreases-loop-n : goal.decreases-loop-n
decreases-loop-n l = l.n

use Rattle.std.proofs.Common.{◌≡◌, ◌++◌, map, take}
use Rattle.call_journal.specs.Head.{shown_byte}
use Rattle.call_journal.proofs.head.append_bytes.Given as goal

abbrev pub invariant-loop-byte : goal.invariant-loop-byte
invariant-loop-byte g l = l.out.items ≡ l.initial.out.items ++ map shown_byte (take l.byte-index l.text)

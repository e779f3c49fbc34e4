use Rattle.std.proofs.Common.{◌≡◌, ◌++◌, map, take}
use Rattle.authentication.specs.Note.{shown_byte}
use Rattle.authentication.proofs.note.append_bytes.Given as goal

abbrev pub invariant-loop-byte : goal.invariant-loop-byte
invariant-loop-byte g l = l.out.items ≡ l.fn.out.items ++ map shown_byte (take l.byte-index l.text)

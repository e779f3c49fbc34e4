-- What became of a value that was to be taken away.
use Rattle.std.specs.Prelude.{Bool, true, false, Option, Some, None}
use Rattle.call_table.specs.declared.shelf.Removal.{Removal}
use Rattle.call_table.specs.declared.shelf.Removal.TheVariants.{Removed, Kept, Busy, Absent}

-- what was said of the value, where it was looked at
abbrev pub said : Removal → Option Bool
said Removed = Some true
said Kept = Some false
said Busy = None
said Absent = None

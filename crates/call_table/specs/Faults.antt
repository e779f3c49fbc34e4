-- Why nothing was put.
use Rattle.std.specs.Prelude.{ℕ}
use Rattle.call_table.specs.declared.shelf.PendingFault.{PendingFault}
use Rattle.call_table.specs.declared.shelf.PendingFault.TheVariants as pending
use Rattle.call_table.specs.declared.shelf.ShelfFault.{ShelfFault}
use Rattle.call_table.specs.declared.shelf.ShelfFault.TheVariants.{Known, Spent, Made, NoMemory}

-- what holds of what makes a value refused with, where that is why
abbrev pub IfMade : {E : Type 0} → (E → Type 0) → ShelfFault E → Type 0
IfMade P (Made refused) = P refused
IfMade P (Known number) = Unit {0}
IfMade P Spent = Unit {0}
IfMade P NoMemory = Unit {0}

-- what holds of the number that the key has and of what is given back, where that is why
abbrev pub IfKnown : {P : Type 0} → (ℕ → P → Type 0) → PendingFault P → Type 0
IfKnown P (pending.Known number back) = P number back
IfKnown P pending.Spent = Unit {0}
IfKnown P pending.NoMemory = Unit {0}

-- what holds where no number is left
abbrev pub IfSpent : {P : Type 0} → Type 0 → PendingFault P → Type 0
IfSpent Q (pending.Known number back) = Unit {0}
IfSpent Q pending.Spent = Q
IfSpent Q pending.NoMemory = Unit {0}

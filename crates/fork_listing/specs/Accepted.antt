-- Which texts are accepted, and that the listing of every fork is one of them.
use Rattle.std.specs.Prelude.{◌≡◌, ℕ, List, ◌++◌, Result, Ok, Err}
use Rattle.fork_model.specs.Core.{Core}
use Rattle.fork_context.specs.Led.{IsLedTo}
use Rattle.fork_listing.specs.declared.refusal.Verdict.{Verdict}
use Rattle.fork_listing.specs.declared.refusal.CheckFault.{CheckFault}
use Rattle.fork_listing.specs.declared.refusal.CheckFault.TheVariants.{Line, NoMemory}
use Rattle.fork_listing.specs.Text.{Listing, read_listing}
use Rattle.fork_listing.specs.Spelled.{IsTextOf, IsFirstMalformed}
use Rattle.fork_listing.specs.Checking.{IsRight, IsChecked, verdict_of}
use Rattle.fork_listing.specs.Listed.{IsListingOf}

-- the text of a listing that is right, which tells this
abbrev pub IsRightText : List ℕ → Verdict → Type 0
IsRightText text verdict = (l : Listing) × IsTextOf l text × IsRight l × (verdict ≡ verdict_of l)

abbrev pub IsOkElseNoMemory : Verdict → Result Verdict CheckFault → Type 0
IsOkElseNoMemory verdict (Ok told) = told ≡ verdict
IsOkElseNoMemory verdict (Err NoMemory) = Unit {0}
IsOkElseNoMemory verdict (Err _) = ⊥

-- a malformed line is named by the number of the first
abbrev pub IsLineNamed : List ℕ → CheckFault → Type 0
IsLineNamed text (Line n) = IsFirstMalformed text n
IsLineNamed text _ = Unit {0}

-- exactly the right texts are accepted, want of memory aside
abbrev pub AcceptedTextsAreRight : Type 0
AcceptedTextsAreRight =
    (text : List ℕ) (verdict : Verdict) → IsChecked (read_listing text) (Ok verdict) → IsRightText text verdict

abbrev pub RightTextsAreAccepted : Type 0
RightTextsAreAccepted =
    (text : List ℕ) (verdict : Verdict) (result : Result Verdict CheckFault)
    → IsRightText text verdict → IsChecked (read_listing text) result → IsOkElseNoMemory verdict result

-- whatever has happened to a fork, its listing is right: where it is checked, it is accepted
abbrev pub ListingsAreRight : Type 0
ListingsAreRight =
    (core : Core) (text : List ℕ) → IsLedTo core → IsListingOf core.table text → (verdict : Verdict) × IsRightText text verdict

-- what was appended is right
abbrev pub AppendsRight : List ℕ → List ℕ → Type 0
AppendsRight old new = (text : List ℕ) × (verdict : Verdict) × (new ≡ old ++ text) × IsRightText text verdict

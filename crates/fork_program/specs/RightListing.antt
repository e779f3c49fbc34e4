-- What the program prints of a fork that is done ends in its listing, and a check of that says yes (RFC 3261 section 16.7
-- steps 5 and 6).
use Rattle.std.specs.Prelude.{◌≡◌, ◌≤◌, ℕ, List, ◌++◌, length, codes}
use Rattle.fork_model.specs.Table.{Table}
use Rattle.fork_listing.specs.declared.refusal.Verdict.{Verdict}
use Rattle.fork_listing.specs.Listed.{IsListingOf}
use Rattle.fork_listing.specs.Accepted.{IsRightText}
use Rattle.fork_rank.specs.RuleLines.{ended}
use Rattle.fork_program.specs.Script.{Script}
use Rattle.fork_program.specs.Spelling.{Spells}
use Rattle.fork_program.specs.Replay.{closed}
use Rattle.fork_program.specs.Faults.{most_text, IsForkReplay}
use Rattle.fork_program.specs.Answer.{AppendsAnswer}
use Rattle.fork_program.specs.Headline.{IsDone}

-- what is printed from the line `fork` on is the listing of the fork; that is right, and no longer than what is checked
pub record EndsInRightListing (t : Table) (printed : List ℕ) : Type 0 where
  pub front : List ℕ
  pub listed : List ℕ
  pub joined : printed ≡ front ++ listed
  pub listing : IsListingOf t listed
  pub verdict : Verdict
  pub right : IsRightText listed verdict
  pub short : length listed ≤ most_text

-- where the text spells a script whose fork is done, what was appended ends so
abbrev pub AppendsRightListing : (text old new : List ℕ) → Type 0
AppendsRightListing text old new =
    (script : Script) → Spells text script → IsDone script
    → (printed : List ℕ) × (new ≡ old ++ printed) × EndsInRightListing (closed script).table printed

-- the replay of each script whose fork is done ends so
abbrev pub ReplaysEndInRightListings : Type 0
ReplaysEndInRightListings =
    (text printed : List ℕ) (script : Script)
    → Spells text script → IsForkReplay script printed → IsDone script → EndsInRightListing (closed script).table printed

-- a right listing is no longer than what is checked
abbrev pub RightListingsAreShort : Type 0
RightListingsAreShort = (listed : List ℕ) (verdict : Verdict) → IsRightText listed verdict → length listed ≤ most_text

-- where a right listing is checked, the line `yes` is appended, and the status is 0
abbrev pub RightListingsAreAnsweredYes : Type 0
RightListingsAreAnsweredYes =
    (listed old new : List ℕ) (verdict : Verdict) (status : ℕ)
    → IsRightText listed verdict → AppendsAnswer listed old new status
    → (status ≡ 0) × (new ≡ old ++ ended (codes "yes"))

-- What is written down of a call.
use Rattle.std.specs.Prelude.{◌≡◌, ℕ, true, false, List, ◌++◌, codes, length}
use Rattle.std.specs.Fmt.{decimal}
use Rattle.fork_model.specs.Table as table
use Rattle.fork_model.specs.Choice.{Choice, IsChoice, status_sent}
use Rattle.fork_listing.specs.declared.refusal.Verdict.{Verdict}
use Rattle.fork_listing.specs.Accepted.{IsRightText}
use Rattle.fork_listing.specs.Listed.{IsListingOf}
use Rattle.call_journal.specs.declared.head.CallRecord.{CallRecord}
use Rattle.call_journal.specs.Head.{head_text}
use Rattle.call_journal.specs.Why.{why_text}
use Rattle.call_journal.specs.declared.notes.Note.{Note}
use Rattle.call_journal.specs.Notes.{targets_text}
use Rattle.sip_lex.specs.Cut.{Lacks}

-- what each target did, by these notes
abbrev pub lines_of : table.Table → List Note → List ℕ
lines_of t notes = targets_text (length t.rows) notes

-- the status that went up, why that did, what each target did, and the listing, behind what stood there
pub record Fails (t : table.Table) (notes : List Note) (old new : List ℕ) : Type 0 where
  pub choice : Choice
  pub chosen : IsChoice t.rules t.rows choice
  pub listing : List ℕ
  pub listed : IsListingOf t listing
  pub spelled : new ≡ old ++ (codes " failed " ++ (decimal (status_sent t.rows choice) ++ (why_text t choice ++ (codes "\n" ++ (lines_of t notes ++ listing)))))

-- how a call ended, behind what stood there: a branch was answered with a 2xx; none was, and one has not ended; none was, and all have
pub record Ends (t : table.Table) (notes : List Note) (old new : List ℕ) : Type 0 where
  pub answered : table.is_succeeded t.rows ≡ true → new ≡ old ++ (codes " answered\n" ++ lines_of t notes)
  pub unfinished : table.is_succeeded t.rows ≡ false → table.is_finished t.rows ≡ false → new ≡ old ++ (codes " open\n" ++ lines_of t notes)
  pub failed : table.is_succeeded t.rows ≡ false → table.is_finished t.rows ≡ true → Fails t notes old new

abbrev pub IsBlock : CallRecord → table.Table → List Note → List ℕ → Type 0
IsBlock h t notes text = Ends t notes (head_text h) text

abbrev pub Journals : CallRecord → table.Table → List Note → List ℕ → List ℕ → Type 0
Journals h t notes old new = (text : List ℕ) × IsBlock h t notes text × (new ≡ old ++ text)

-- a listing that a check accepts stands behind the line, which ends behind the words that say why, and the lines of so many targets
abbrev pub IsFailedBlock : CallRecord → List Note → List ℕ → Type 0
IsFailedBlock h notes text =
    (status : ℕ)
    × (count : ℕ)
    × (why : List ℕ)
    × (listing : List ℕ)
    × (verdict : Verdict)
    × (text ≡ head_text h ++ (codes " failed " ++ (decimal status ++ (why ++ (codes "\n" ++ (targets_text count notes ++ listing))))))
    × Lacks 10 why
    × IsRightText listing verdict

-- How a call ended, once it is known whether it was answered and whether every branch has ended.
use Rattle.std.proofs.Common.{◌≡◌, ℕ, Bool, true, false, List, ◌++◌, codes, sym, ap, ◌∙◌, append_assoc, length}
use Rattle.std.proofs.lemmas.Bool.{false≢true}
use Rattle.std.specs.Fmt.{decimal}
use Rattle.fork_model.specs.Core.{Core}
use Rattle.fork_model.specs.Table as table
use Rattle.fork_model.specs.Choice.{Choice, IsChoice, status_sent}
use Rattle.fork_context.specs.Led.{IsLedTo}
use Rattle.fork_listing.specs.Accepted.{ListingsAreRight}
use Rattle.fork_listing.specs.Listed.{Appends}
use Rattle.call_journal.specs.declared.head.CallRecord.{CallRecord}
use Rattle.fork_model.specs.Steps.{EachTargetHasARow, TargetsAreBounded}
use Rattle.call_journal.specs.declared.notes.Note.{Note}
use Rattle.call_journal.specs.Block.{Ends, IsBlock, IsFailedBlock, lines_of}
use Rattle.call_journal.specs.Why.{why_text}
use Rattle.call_journal.proofs.FewRows.{few_led}
use Rattle.call_journal.proofs.WhyLines.{why_lacks}

-- a test that holds fails not
no : (b : Bool) → b ≡ true → b ≡ false → ⊥
no b e d = false≢true (sym d ∙ e)

-- the lines stand behind these words
behind : (old words x lines new : List ℕ) → x ≡ old ++ words → new ≡ x ++ lines → new ≡ old ++ (words ++ lines)
behind old words x lines new p is = is ∙ ap (λ (v : List ℕ). v ++ lines) p ∙ append_assoc old words lines

pub answered_so : (t : table.Table) (notes : List Note) (old x new : List ℕ) → table.is_succeeded t.rows ≡ true → x ≡ old ++ codes " answered\n" → new ≡ x ++ lines_of t notes → Ends t notes old new
answered_so t notes old x new e p is = record {
  answered = λ _. behind old (codes " answered\n") x (lines_of t notes) new p is;
  unfinished = λ d _. absurd (no (table.is_succeeded t.rows) e d);
  failed = λ d _. absurd (no (table.is_succeeded t.rows) e d);
}

pub open_so : (t : table.Table) (notes : List Note) (old x new : List ℕ) → table.is_succeeded t.rows ≡ false → ((table.is_finished t.rows ≡ true) × (table.is_succeeded t.rows ≡ false) → ⊥) → x ≡ old ++ codes " open\n" → new ≡ x ++ lines_of t notes → Ends t notes old new
open_so t notes old x new e none p is = record {
  answered = λ d. absurd (no (table.is_succeeded t.rows) d e);
  unfinished = λ _ _. behind old (codes " open\n") x (lines_of t notes) new p is;
  failed = λ d f. absurd (none (f, d));
}

regrouped : (old a b c d e f : List ℕ) → (((((old ++ a) ++ b) ++ c) ++ d) ++ e) ++ f ≡ old ++ (a ++ (b ++ (c ++ (d ++ (e ++ f)))))
regrouped old a b c d e f = simp append_assoc

pub failed_so : (t : table.Table) (notes : List Note) (old x y w z l new : List ℕ) (choice : Choice) (status : ℕ) → table.is_succeeded t.rows ≡ false → table.is_finished t.rows ≡ true
    → IsChoice t.rules t.rows choice → status ≡ status_sent t.rows choice
    → x ≡ old ++ codes " failed " → y ≡ x ++ decimal status → w ≡ y ++ why_text t choice → z ≡ w ++ codes "\n" → l ≡ z ++ lines_of t notes → Appends t l new → Ends t notes old new
failed_so t notes old x y w z l new choice status e f chosen sent p q u r o listed = record {
  answered = λ d. absurd (no (table.is_succeeded t.rows) d e);
  unfinished = λ _ d. absurd (no (table.is_finished t.rows) f d);
  failed = λ _ _. record {
    choice = choice;
    chosen = chosen;
    listing = listed.text;
    listed = listed.listing;
    spelled =
        listed.spelled
        ∙ ap (λ (v : List ℕ). v ++ listed.text)
        (o
        ∙ ap (λ (v : List ℕ). v ++ lines_of t notes)
        (r ∙ ap (λ (v : List ℕ). v ++ codes "\n") (u ∙ ap (λ (v : List ℕ). v ++ why_text t choice) (q ∙ ap (λ (v : List ℕ). v ++ decimal status) p))))
        ∙ regrouped old (codes " failed ") (decimal status) (why_text t choice) (codes "\n") (lines_of t notes) listed.text
        ∙ ap (λ n. old ++ (codes " failed " ++ (decimal n ++ (why_text t choice ++ (codes "\n" ++ (lines_of t notes ++ listed.text)))))) sent;
  };
}

pub listed_right : ListingsAreRight → TargetsAreBounded → EachTargetHasARow → (h : CallRecord) (core : Core) (notes : List Note) (text : List ℕ) → IsLedTo core → table.is_finished core.table.rows ≡ true → table.is_succeeded core.table.rows ≡ false
    → IsBlock h core.table notes text → IsFailedBlock h notes text
listed_right right bounded each h core notes text led finished not_succeeded block =
    let end = block.failed not_succeeded finished in
    let told = right core end.listing led end.listed in (
      status_sent core.table.rows end.choice,
      length core.table.rows,
      why_text core.table end.choice,
      end.listing,
      told.0,
      end.spelled,
      why_lacks core.table end.choice (few_led bounded each core led),
      told.1,
    )

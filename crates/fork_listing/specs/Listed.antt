-- The listing of a fork that has finished without a 2xx (RFC 3261 section 16.7 steps 5 and 6).
use Rattle.std.specs.Prelude.{◌≡◌, ℕ, suc, true, false, List, [], ◌∷◌, ◌++◌, length}
use Rattle.fork_model.specs.Table as table
use Rattle.fork_model.specs.Choice.{Choice, IsChoice}
use Rattle.fork_tree.specs.declared.row.State.{State}
use Rattle.fork_tree.specs.declared.row.State.TheVariants as state
use Rattle.fork_context.specs.declared.row.RowView.{RowView}
use Rattle.fork_context.specs.RowShown.{row_shown}
use Rattle.fork_listing.specs.declared.line.Version.TheVariants.{Third}
use Rattle.fork_tree.specs.declared.row.End.{End}
use Rattle.fork_tree.specs.declared.row.End.TheVariants.{Never}
use Rattle.fork_listing.specs.declared.line.ListedTarget.{ListedTarget}
use Rattle.fork_listing.specs.declared.line.Ranked.{Ranked}
use Rattle.fork_listing.specs.Ranks.{final_of}
use Rattle.fork_listing.specs.Ranking.{IsRanking}
use Rattle.fork_listing.specs.Text.{Listing, listing_text}

-- how a branch has ended; no other state is left once all have
abbrev pub state_shown : State → End
state_shown state.Idle = Never
state_shown state.Trying = Never
state_shown (state.Rung cancelled) = Never
state_shown (state.Ended end) = end

abbrev pub target_shown : RowView → ListedTarget
target_shown view = record { number = view.row.no; parent = view.row.parent; q = view.row.q; end = state_shown view.row.state }

-- the line of each row, from this number on
abbrev pub targets_from : ℕ → List table.Row → List ListedTarget
targets_from n [] = []
targets_from n (row ∷ rows) = target_shown (row_shown n row) ∷ targets_from (suc n) rows

abbrev pub targets_of : List table.Row → List ListedTarget
targets_of rows = targets_from 0 rows

abbrev pub listing_of : table.Table → List Ranked → Choice → Listing
listing_of t ranks choice = record {
  version = Third;
  count = length t.rows;
  rules = t.rules;
  targets = targets_of t.rows;
  ranks = ranks;
  last = final_of t.rows choice;
}

-- the text lists the table of a fork that has finished without a 2xx: its rows by number, all that is stored in order of
-- rank, and the choice
pub record IsListingOf (t : table.Table) (text : List ℕ) : Type 0 where
  pub finished : table.is_finished t.rows ≡ true
  pub failed : table.is_succeeded t.rows ≡ false
  pub ranks : List Ranked
  pub choice : Choice
  pub ranking : IsRanking t.rules (targets_of t.rows) ranks
  pub chosen : IsChoice t.rules t.rows choice
  pub spelled : text ≡ listing_text (listing_of t ranks choice)

pub record Appends (t : table.Table) (old new : List ℕ) : Type 0 where
  pub text : List ℕ
  pub listing : IsListingOf t text
  pub spelled : new ≡ old ++ text

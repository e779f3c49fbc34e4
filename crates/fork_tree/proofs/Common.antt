-- The names that most proofs of this crate cite, passed on from one place. Declares nothing.
pub use Rattle.std.proofs.Common.{Bool, IsSome, IsTrue, List, None, Option, Some, [], ap, append_assoc, arith, drop, eqb, false, get_or, if◌then◌else◌, inl, inr, is_some, length, length-append, ltb, ltb-false, ltb-true, map, nat_eq, nat_lt, not}
pub use Rattle.std.proofs.Common.{refl, slice_get, subst, suc, sym, take, true, zero, ℕ, ◌&&◌, ◌*◌, ◌++◌, ◌+◌, ◌-◌, ◌<◌, ◌||◌, ◌∙◌, ◌∷◌, ◌≡◌, ◌≤◌, ◌⊎◌, rules, vec_len}
pub use Rattle.std.proofs.Math.ListN.{set}
pub use Rattle.std.proofs.lemmas.Bool.{cases_lt, eq-eqb, eqb-false, eqb-true, false_from_ne_true, ne_eqb, not-true, not_from_false}
pub use Rattle.std.proofs.lemmas.List.{append-nil, get_or_default, get_or_past, length-map, map-append, map-id, nil_from_length, take_all}
pub use Rattle.std.proofs.lemmas.Option.{get_or_from_slice_get, slice_get_past, slice_get_within}
pub use Rattle.std.specs.Option.{option_eq, option_map}
pub use Rattle.std.proofs.lemmas.Grind.{common_steps}
pub use Rattle.fork_model.proofs.laws.ContactLemmas.{length-state}
pub use Rattle.fork_model.proofs.laws.StepLemmas.{and_left, and_right}
pub use Rattle.fork_model.proofs.laws.WaitingLemmas.{MayStart, idle_not_ended, may_start_facts, may_start_of, option_same, or_cases, or_right}
pub use Rattle.fork_model.specs.Choice.{HasScore, score_of, stored_at}
pub use Rattle.fork_model.specs.Rank.{Rank, RanksBefore, Score, rank_of}
pub use Rattle.fork_model.specs.Step.{with_state}
pub use Rattle.fork_model.specs.Table.{Row, Rules, is_ended, is_idle, is_open, is_row, most_targets, stored_of}
pub use Rattle.fork_model.specs.Waiting.{goes_before, in_earlier_group, parent_ended}
pub use Rattle.fork_model.proofs.laws.ChangeLemmas.{AreBelow, stays}
pub use Rattle.fork_tree.proofs.Lists.{get_left, get_map, get_right, one_there, there_at}
pub use Rattle.fork_tree.specs.Below.{from_parent, leads, lies_below, open_below, open_where, parent_of}
pub use Rattle.fork_tree.specs.Closing.{closed_row, never_tried}
pub use Rattle.fork_tree.specs.Listed.{AreListed, AreRanked, IsTree, kept_of}
pub use Rattle.fork_tree.specs.NewRows.{Waiting, differs, idle, new_entries, new_rows_from, new_rows_of, new_rows_with, waiting_row}
pub use Rattle.fork_tree.specs.Places.{AreOlder, AreTogether, IsPlaced, above, number_of, path_at, path_of, path_to, row_at, rows_from, rows_of}
pub use Rattle.fork_tree.specs.Ready.{IsReady, tried}
pub use Rattle.fork_tree.specs.Rows.{Cell, Entry, find, node_rows, same, unanswered}
pub use Rattle.fork_tree.specs.Search.{AreKnown, AreMet, IsKnown, IsOnWay}
pub use Rattle.fork_tree.specs.States.{has_ended, plain_state}
pub use Rattle.fork_tree.specs.Summary.{HasKept, IsKept, IsNode, best_of, open_of, open_state}
pub use Rattle.fork_tree.specs.Tree.{IsBest, Tree, open_rows, row_ref, score_of_ref}
pub use Rattle.fork_tree.specs.declared.new_row.NewRow.{NewRow}
pub use Rattle.fork_tree.specs.declared.place.NodePlace.{NodePlace}
pub use Rattle.fork_tree.specs.declared.row.End.TheVariants.{Accepted, Never, Silent, Stored, Taken}
pub use Rattle.fork_tree.specs.declared.row.RowRef.{RowRef}
pub use Rattle.fork_tree.specs.declared.row.State.{State}
pub use Rattle.fork_tree.specs.declared.row.State.TheVariants.{Ended, Idle, Rung, Trying}
pub use Rattle.fork_tree.specs.declared.summary.BestRef.{BestRef}
pub use Rattle.fork_tree.specs.declared.summary.RankedAnswer.{RankedAnswer}
pub use Rattle.fork_tree.specs.declared.summary.BranchState.{BranchState}
pub use Rattle.fork_tree.specs.declared.summary.Summary.{Summary}
pub use Rattle.fork_tree.specs.inner.Below.{put_under, stripped, under}
pub use Rattle.fork_tree.specs.inner.Changes.{Changes, MayEnd}
pub use Rattle.fork_tree.specs.inner.Closing.{closed_entry, closed_standing, closed_to}
pub use Rattle.fork_tree.specs.inner.NewRows.{place_in}
pub use Rattle.fork_tree.specs.inner.Rows.{changed, in_standing, is_open_cell, joined, led, open_at, pushed, state_in, with_branch}
pub use Rattle.fork_tree.specs.inner.Search.{FindsFirst, FindsHere, FindsOnWay, IsShape, IsStarted, NoneUnder, waits_in}
pub use Rattle.fork_tree.specs.inner.States.{closed_state}
pub use Rattle.fork_tree.specs.inner.Summary.{AreWaiting, Better, Gains}
pub use Rattle.fork_tree.specs.inner.Tree.{is_unended}
pub use Rattle.fork_tree.specs.Given.{AreRows, IsBeside, IsFirstUnder, given_row}
pub use Rattle.fork_tree.specs.inner.Falls.{length_pushed}
pub use Rattle.fork_tree.specs.inner.Given.{AllHalf, IsHalf, IsRun, IsStanding, q_of}

-- The names that most proofs of this crate cite, passed on from one place. Declares nothing.
pub use Rattle.std.proofs.Common.{Bool, Err, List, None, Ok, Option, Result, Some, [], ap, append-nil, append_assoc, arith, bytes_eq, codes, cond, eqb, false, inl, inr, length, map, nat_lt, not, option_and_then, refl, slice_get, subst, suc, sym}
pub use Rattle.std.proofs.Common.{take, true, zero, ℕ, ◌&&◌, ◌++◌, ◌+◌, ◌-◌, ◌<◌, ◌||◌, ◌∙◌, ◌∷◌, ◌≡◌, ◌≢◌, ◌≤◌, ◌⊎◌, IsPermutation, rules}
pub use Rattle.std.proofs.lemmas.Bool.{cases_lt, eq-eqb, eqb-false, eqb-true, false≢true, ltb-true, cases_eq}
pub use Rattle.std.proofs.lemmas.List.Splits.{join_with_byte-slice_split}
pub use Rattle.std.proofs.lemmas.Option.{same_Some, slice_get-map, slice_get_read, slice_get_within, get_or_from_slice_get, slice_get-get_or}
pub use Rattle.std.proofs.lemmas.Slice.Eq.{bytes_eq-Decides}
pub use Rattle.std.specs.Fmt.{decimal}
pub use Rattle.std.specs.List.{AllByRecursion, slice_split, cons_option}
pub use Rattle.std.specs.Option.{option_map}
pub use Rattle.std.proofs.lemmas.Bool.Decides.{nat_tests}
pub use Rattle.std.proofs.lemmas.Cmp.{nat_cmp_total}
pub use Rattle.std.proofs.lemmas.Grind.{common_steps}
pub use Rattle.std.proofs.lemmas.Iterator.{first_from_Range}
pub use Rattle.std.specs.BTreeSet.{BTreeSet, contains}
pub use Rattle.std.specs.Ordering.{nat_cmp}
pub use Rattle.std.specs.Prelude.{◌↔◌}
pub use Rattle.fork_tree.specs.declared.row.End.{End}
pub use Rattle.fork_tree.specs.declared.row.End.TheVariants.{Never, Silent, Stored, Taken}
pub use Rattle.fork_model.proofs.laws.OrderLemmas.{Before-trans}
pub use Rattle.fork_model.specs.Choice.{Best, Choice, HasScore, IsChoice, IsFirst, NoAnswer408, NoneStored, Only503, status_at, stored_at}
pub use Rattle.fork_model.specs.Contacts.{fresh_row, fresh_rows}
pub use Rattle.fork_model.specs.Core.{Core, core_after, core_next, core_offered, is_full, opening_core}
pub use Rattle.fork_model.specs.Event.{Event}
pub use Rattle.fork_model.specs.Groups.{numbered}
pub use Rattle.fork_model.specs.History.{first_row, opening_rows}
pub use Rattle.fork_model.specs.OneReply.{AreArrivals}
pub use Rattle.fork_model.specs.Rank.{Before, Score}
pub use Rattle.fork_model.specs.Table.{Accepted, Ended, Idle, Kind, Offer, Row, Rules, Rung, State, Table, Trying, most_targets, is_succeeded}
pub use Rattle.fork_rank.proofs.laws.Field.{before_found, before_read, found_map, found_one, found_then}
pub use Rattle.fork_rank.specs.Field.{before, most_number, most_q}
pub use Rattle.fork_rank.specs.RuleLines.{ended}
pub use Rattle.fork_tree.specs.Tree.{IsBest}
pub use Rattle.fork_tree.specs.declared.row.RowRef.{RowRef}
pub use Rattle.fork_tree.specs.declared.summary.BestRef.{BestRef}
pub use Rattle.sip_lex.proofs.laws.Numbers.{decimal_lacks, number_read, number_spelled}
pub use Rattle.sip_lex.specs.Cut.{Lacks, is}
pub use Rattle.sip_lex.specs.Number.{plain_number_within}
pub use Rattle.fork_tree.specs.Given.{given_row}
pub use Rattle.fork_listing.proofs.Lists.{all_at, cases, first_same, first_to_fail, looked, mapped, none_some, one_at, some_same, there}
pub use Rattle.fork_listing.specs.Accepted.{IsRightText}
pub use Rattle.fork_listing.specs.Checking.{AreInOrder, AreListed, IsChecked, IsRight, IsVerdictOf, verdict_of}
pub use Rattle.fork_listing.specs.First.{HoldsBelow, IsFirstToFail}
pub use Rattle.fork_listing.specs.Line.{DepthLine, FinalLine, ForkLine, Line, PreferLine, RankLine, TargetLine, end_text, how_text, line_text, most_arrival, most_listed, number_text, version_text}
pub use Rattle.fork_listing.specs.Listed.{IsListingOf, listing_of, targets_from, targets_of}
pub use Rattle.fork_listing.specs.Meaning.{FirstLineIs, ListedAreStored}
pub use Rattle.fork_listing.specs.Ranking.{IsRanking}
pub use Rattle.fork_listing.specs.Ranks.{IsChosen, IsListed, IsNotChosen, IsOrdered, RanksBehind, final_of, row_of, rows_of, score_at, score_in, score_of}
pub use Rattle.fork_listing.specs.Reading.{read_count, read_end, read_line, read_parent, read_status, read_version}
pub use Rattle.fork_listing.specs.Spelled.{IsEnd, IsFinalLine, IsHow, IsLine, IsListing, IsNumberOrNone, IsRankLine, IsStatus, IsTargetLine}
pub use Rattle.fork_listing.specs.Targets.{Follows, FollowsTarget, HasDepth, IsBefore, IsEarlier, IsInPlace, IsParent, IsPlaced, arrival_of, ended_at, is_redirected, is_redirection, line_before}
pub use Rattle.fork_listing.specs.Text.{Draft, Listing, drafted_line, in_phase, lines_text, listing_in, listing_text, no_draft, or_line, read_from, read_listing, rule_lines, drafted, finished_draft}
pub use Rattle.fork_listing.specs.declared.draft.ListingPhase.{ListingPhase}
pub use Rattle.fork_listing.specs.declared.line.Final.{Final}
pub use Rattle.fork_listing.specs.declared.line.Ranked.{Ranked}
pub use Rattle.fork_listing.specs.declared.line.ListedTarget.{ListedTarget}
pub use Rattle.fork_listing.specs.declared.line.Version.{Version}
pub use Rattle.fork_listing.specs.declared.line.Version.TheVariants.{First, Second, Third}
pub use Rattle.fork_listing.specs.declared.refusal.Verdict.{Verdict}
pub use Rattle.fork_listing.specs.inner.Near.{IsNear, Holds, IsShallow}
pub use Rattle.fork_listing.specs.inner.Stored.{AreNumbered, ranked_in}
pub use Rattle.fork_listing.specs.inner.Text.{ranks_text, targets_text}

-- The names that most proofs of this crate cite, passed on from one place. Declares nothing.
pub use Rattle.std.proofs.Common.{All, Bool, IfNone, IfSome, List, None, Option, Some, [], add-one, ap, append_assoc, arith, cond, drop, eqb-true, false, filter, get_or, inl, inr, is_some, length, length-append, ltb-true, map, nat_eq, nat_lt, not}
pub use Rattle.std.proofs.Common.{refl, rules, slice_get, subst, suc, sym, take, true, unwrap_or, vec_capacity, vec_len, zero, ℕ, ◌&&◌, ◌++◌, ◌+◌, ◌-◌, ◌<◌, ◌==◌, ◌||◌, ◌∙◌, ◌∷◌, ◌≡◌, ◌≢◌, ◌≤◌, ◌⊎◌}
pub use Rattle.std.proofs.lemmas.List.{append-nil, length-map, take_more, map-append}
pub use Rattle.std.proofs.lemmas.List.Elements.{filter-append, filter_map-append}
pub use Rattle.std.proofs.lemmas.Option.{slice_get-map, slice_get_past, slice_get_within}
pub use Rattle.std.proofs.lemmas.Result.{IfOk-weaker}
pub use Rattle.std.specs.Cmp.Lexicographic.{pointwise}
pub use Rattle.std.specs.List.{AllByRecursion, cons_option, filter_map, flat_map, insert, list_any}
pub use Rattle.std.specs.Option.{option_and_then, option_map, option_to_list}
pub use Rattle.std.proofs.Math.Bool.{or-false}
pub use Rattle.std.proofs.lemmas.Bool.{false_from_ne_true, not-true, true≢false}
pub use Rattle.std.proofs.lemmas.Bool.Decides.{nat_tests}
pub use Rattle.std.proofs.lemmas.Grind.{common_steps}
pub use Rattle.fork_model.proofs.laws.ChangeLemmas.{Found, changed_row, found}
pub use Rattle.fork_model.proofs.laws.ContactLemmas.{length-state, targets_bounded}
pub use Rattle.fork_model.proofs.laws.GroupLemmas.{AllPlaces, length_numbered_all, numbered_places}
pub use Rattle.fork_model.proofs.laws.OneReplyLemmas.{one_choice}
pub use Rattle.fork_model.proofs.laws.SeriesLemmas.{OneGroup}
pub use Rattle.fork_model.proofs.laws.StepLemmas.{next_of_change, next_of_stray, and_left, and_right}
pub use Rattle.fork_model.proofs.laws.WaitingLemmas.{may_start_facts}
pub use Rattle.fork_model.specs.Challenges.{askers_below, by_arrival, other_askers}
pub use Rattle.fork_model.specs.Choice.{Choice, IsChoice, IsFirst, NoneStored, stored_at}
pub use Rattle.fork_model.specs.Contacts.{ContactLists, fresh_row, fresh_rows, is_known, keys_of, taking_at, taking_from}
pub use Rattle.fork_model.specs.Core.{Core, is_full}
pub use Rattle.fork_model.specs.Event.{Answer, Cancel, Event, Fault, FinalAnswer, GiveUp, Ring, Timeout, TimerC, row_named}
pub use Rattle.fork_model.specs.Groups.{falling, groups_of, in_group, is_value, numbered, numbered_from, numbers_below, places_of}
pub use Rattle.fork_model.specs.History.{Target, opening}
pub use Rattle.fork_model.specs.Range.{IsTargetInRange}
pub use Rattle.fork_model.specs.Reply.{became, has_become}
pub use Rattle.fork_model.specs.Series.{IsInSeries}
pub use Rattle.fork_model.specs.Step.{Effect, accepts, answers, assumed, change, change_at, closed_state, effect, moves, next, redirects, settled, settled_row, stores, with_effect, with_state}
pub use Rattle.fork_model.specs.Table.{Accepted, Challenge, End, Ended, Idle, Kind, Never, Offer, Row, Rules, Rung, Silent, State, Stored, StoredAnswer, Table, Taken, Trying, is_accepted, is_cancelled, is_ended, is_finished, is_idle, is_invite}
pub use Rattle.fork_model.specs.Table.{is_open, is_row, is_succeeded, is_trying, most_targets, stored_of, Invite, Other, is_accepted_end}
pub use Rattle.fork_model.specs.Waiting.{depth_of, in_earlier_group, may_start, parent_ended}
pub use Rattle.fork_rank.specs.Grouping.{lists_of}
pub use Rattle.fork_tree.specs.NewRows.{Waiting, new_rows_of, waiting_row}
pub use Rattle.fork_tree.specs.Ready.{IsReady, tried}
pub use Rattle.fork_tree.specs.States.{end_of, plain_state, shown}
pub use Rattle.fork_tree.specs.Tree.{Tree, is_uncancelled, plain_row, row_ref}
pub use Rattle.fork_tree.specs.declared.new_row.NewRow.{NewRow}
pub use Rattle.fork_tree.specs.declared.row.RowRef.{RowRef}
pub use Rattle.fork_context.specs.Closing.{IsClosedWhole, closed_row}
pub use Rattle.context_values.specs.EventView.{event_of}
pub use Rattle.fork_rank.specs.KindView.{kind_of}
pub use Rattle.fork_context.specs.Led.{AreRules}
pub use Rattle.fork_context.specs.Refusals.{HasTwice}
pub use Rattle.context_values.specs.ReplyView.{choice_of}
pub use Rattle.fork_context.specs.RowShown.{row_shown}
pub use Rattle.fork_context.specs.Sound.{IsKept, IsSound}
pub use Rattle.fork_context.specs.declared.row.RowView.{RowView}
pub use Rattle.fork_context.specs.inner.Askers.{gathered}
pub use Rattle.fork_context.specs.inner.Closing.{cancel_row, gets_cancel, is_ringing, never_row, never_state}
pub use Rattle.fork_context.specs.inner.ForkInside.{IsFork, accepts_end}
pub use Rattle.fork_context.specs.inner.Opening.{idled, waiting_rows, waiting_table}
pub use Rattle.fork_context.specs.inner.Change.{MayChange, changed, effect_of, may_take}
pub use Rattle.fork_context.specs.inner.Ready.{numbers_from}
pub use Rattle.context_values.specs.RowExtras.{RowExtras, contact_qs, end_with_extras, extras_of_target, q_at, q_of_pair, row_extras_at, row_extras_of, row_with_extras, state_with_extras, target_extras, with_extras, with_row_extras}
pub use Rattle.fork_context.specs.inner.RowShown.{ref_shown}
pub use Rattle.fork_context.specs.inner.StandIn.{tree_row}
pub use Rattle.fork_context.specs.inner.Stepped.{cancelled_at, number_if}

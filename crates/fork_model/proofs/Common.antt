-- The names that most proofs of this crate cite, passed on from one place. Declares nothing.
pub use Rattle.std.proofs.Common.{Bool, List, None, Option, Some, [], ap, arith, cond, eqb-true, false, filter, filter_map, if◌then◌else◌, inl, inr, is_none, is_some, length, length-append, ltb-false, ltb-true, map, nat_eq, nat_le, nat_lt, not, refl}
pub use Rattle.std.proofs.Common.{slice_get, subst, suc, sym, true, zero, ℕ, ◌&&◌, ◌*◌, ◌++◌, ◌+◌, ◌<◌, ◌==◌, ◌||◌, ◌∙◌, ◌∷◌, ◌≡◌, ◌≢◌, ◌≤◌, ◌⊎◌, rules}
pub use Rattle.std.proofs.lemmas.Bool.{eq-eqb}
pub use Rattle.std.proofs.lemmas.List.Elements.{filter-append}
pub use Rattle.std.specs.List.{cons_option, list_all, list_any}
pub use Rattle.std.specs.Option.{option_eq, option_map}
pub use Rattle.std.specs.Prelude.{unwrap_or}
pub use Rattle.std.proofs.lemmas.Grind.{common_steps}
pub use Rattle.fork_model.specs.Choice.{Best, Choice, HasScore, IsChoice, IsFirst, NoAnswer408, NoneStored, Only503, score_of}
pub use Rattle.fork_model.specs.Contacts.{ContactLists, ContactOutcome, Fresh, Known, Left, fresh_row, fresh_rows, is_known, keys_after, keys_of, outcome_of, taking_at, taking_from, with_outcome}
pub use Rattle.fork_model.specs.Core.{AreOutcomes, Core, Full, Outcome, Replied, core_after, core_next, core_offered, is_full, most_strays, opening_core}
pub use Rattle.fork_model.specs.Event.{Answer, Cancel, Event, Fault, FinalAnswer, GiveUp, Ring, Timeout, TimerC, row_named}
pub use Rattle.fork_model.specs.Groups.{falling, in_group, is_value, numbered, numbered_from, numbers_below, places_of, with_q}
pub use Rattle.fork_model.specs.History.{AreReplies, OneFinal, Target, after, first_row, opening, opening_rows, table}
pub use Rattle.fork_model.specs.OneReply.{AreArrivals}
pub use Rattle.fork_model.specs.Rank.{Rank, RanksBefore, Score}
pub use Rattle.fork_model.specs.Reply.{Final, IsReply, IsUp, Nothing, Provisional, Reply, Success, Up, became, finishes, provisional, success}
pub use Rattle.fork_model.specs.Series.{IsInSeries}
pub use Rattle.fork_model.specs.Step.{Effect, accepts, answers, assumed, cancelled, change, change_at, closed_state, effect, is_nonempty, moves, next, redirected, redirects, settled, settled_row, settled_state, stores, with_effect, with_state}
pub use Rattle.fork_model.specs.Steps.{IsSameTarget, IsWithin, progress, steps_of}
pub use Rattle.fork_model.specs.Table.{Accepted, Ended, Idle, Invite, Kind, Offer, Row, Rules, Rung, Silent, State, StoredAnswer, Table, Taken, Trying, is_cancelled, is_ended, is_finished, is_idle, is_invite, is_open, is_row, is_succeeded, is_trying}
pub use Rattle.fork_model.specs.Table.{stored_of}
pub use Rattle.fork_model.specs.Waiting.{depth_of, goes_before, in_earlier_group, line_from, may_start, parent_ended, parent_row, same_group}

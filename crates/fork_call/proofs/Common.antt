-- The names that most proofs of this crate cite, passed on from one place. Declares nothing.
pub use Rattle.std.proofs.Common.{Bool, List, None, Option, Some, [], ap, arith, cond, false, fold, inl, inr, is_none, length, length-append, map, min, not, refl, replicate, slice_get, slice_set, subst, suc, sym, take, true, zero, ℕ, ◌&&◌}
pub use Rattle.std.proofs.Common.{◌++◌, ◌+◌, ◌<◌, ◌==◌, ◌∙◌, ◌∷◌, ◌≡◌, ◌≤◌, ◌⊎◌}
pub use Rattle.std.proofs.lemmas.Bool.{cases_lt, eqb-true, le-leb, leb-false, lt-leb}
pub use Rattle.std.proofs.lemmas.Option.{slice_get_within}
pub use Rattle.std.specs.List.{list_any}
pub use Rattle.fork_model.specs.Log.{Log, Posted, added, table_of}
pub use Rattle.fork_call.specs.Carry.{Carries, CarriesAll, Carrying, IsCutOff, IsRunOut, IsSoFar, Lost, Sends, SendsOne, Sent, Silent}
pub use Rattle.fork_call.specs.Scheduled.{due_of, if_runs, branch_waits, moments_of, row_due, scheduled}
pub use Rattle.fork_call.specs.Timing.{IsTimed}
pub use Rattle.fork_call.specs.inner.Scheduled.{IsTimedBut, comes_before, least_of, moment_at}
pub use Rattle.fork_call.specs.inner.SeenAction.{seen_action}
pub use Rattle.fork_call.specs.inner.Timing.{retimed, room_for, row_moment, row_of_cause, row_of_action, row_of_recipient, timed}
pub use Rattle.fork_model.specs.Core.{Core}
pub use Rattle.fork_model.specs.Event.{Event, row_named}
pub use Rattle.fork_model.specs.OpenBranches.{OthersAreLeft}
pub use Rattle.fork_model.specs.Reply.{Reply}
pub use Rattle.fork_model.specs.Sources.{BecameIsExact, IsNumberIn}
pub use Rattle.fork_model.specs.Step.{next}
pub use Rattle.fork_model.specs.Steps.{PositionsAreBounded}
pub use Rattle.fork_model.specs.Table.{Row, Table, is_cancelled, is_finished, is_row, is_trying, most_targets}
pub use Rattle.call_model.proofs.laws.Logs.{table_added}
pub use Rattle.call_model.specs.Built.{Datagram, answer_of, status_of}
pub use Rattle.call_model.specs.Call.{Call, found, give_up_of, lacks_cancel, nth_branch, owes_ack_on, rows_of, runs_timer_c}
pub use Rattle.call_model.specs.Due.{Action, FireTimerC, GiveUp, IsIdle, IsLeastDue, IsOver, SendAck, SendAnswer, SendCancel, SendRequest, TickCancel, TickClient, TickServer, cancel_at, cancel_client_due, client_at, give_up_at, is_any, is_due_at}
pub use Rattle.call_model.specs.Due.{timer_c_at}
pub use Rattle.call_model.specs.Failed.{Fails, FaultsBy, FaultsClient, cancel_faulted}
pub use Rattle.call_model.specs.OpenedRequest.{Destination}
pub use Rattle.call_model.specs.Branch.{Branch}
pub use Rattle.call_model.specs.Posting.{Posts, call_tag}
pub use Rattle.call_model.specs.Pump.{AnswersBy, AnswersWith, Did, Does, FiresTimerC, Idle, Pumped, Pumps, Send, SendsAnswer, TicksClientBy}
pub use Rattle.call_model.specs.Response.{is_redirection}
pub use Rattle.call_model.specs.SeenStep.{pumped}
pub use Rattle.call_model.specs.Server.{Owed, served_due}
pub use Rattle.call_model.specs.Sound.{IsSound, StepsKeepSound}
pub use Rattle.call_model.specs.Take.{MatchedTransaction, TakesAs}
pub use Rattle.call_model.specs.declared.cause.Cause.{Cause}
pub use Rattle.fork_call.specs.Opening.{Opens}
pub use Rattle.call_state.specs.SeenMatchedTransaction.{seen_recipient}
pub use Rattle.sip_text.specs.Text.{MessageText}
pub use Rattle.sip_txn.specs.Timers.{earlier, is_due}
pub use Rattle.sip_uri.specs.Contact.{ContactText}
pub use Rattle.sip_uri.specs.declared.hop.Hop.{Hop}

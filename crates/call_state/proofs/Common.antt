-- The names that most proofs of this crate cite, passed on from one place. Declares nothing.
pub use Rattle.std.proofs.Common.{Bool, Err, IfOk, IsTrue, List, None, Ok, Option, Result, Some, [], ap, append-nil, arith, cond, drop, false, filter, filter_map, is_some, length, map, nat_lt, not, refl, slice_get}
pub use Rattle.std.proofs.Common.{subst, suc, sym, take, true, zero, ℕ, ◌&&◌, ◌++◌, ◌+◌, ◌<◌, ◌==◌, ◌↔◌, ◌∙◌, ◌∷◌, ◌≡◌, ◌≤◌}
pub use Rattle.std.proofs.lemmas.Bool.{and_from, and_parts, cond-true}
pub use Rattle.std.proofs.lemmas.List.Folds.{list_all-append}
pub use Rattle.std.specs.List.{cons_option, flat_map, list_all}
pub use Rattle.std.specs.Option.{option_and_then, option_copied, option_map}
pub use Rattle.fork_model.specs.Log.{IsAdded, Log, added, core_of, table_of}
pub use Rattle.fork_model.specs.Chosen.{HasFirst, IsChosen}
pub use Rattle.context_values.specs.EventView.{event_of}
pub use Rattle.fork_context.specs.LeftView.{left_of}
pub use Rattle.context_values.specs.ReplyView.{up_of}
pub use Rattle.fork_model.specs.Choice.{Best, stored_at}
pub use Rattle.fork_model.specs.Core.{Core, is_full}
pub use Rattle.fork_model.specs.Event.{Cancel, Event, TimerC}
pub use Rattle.fork_model.specs.Groups.{numbers_below}
pub use Rattle.fork_model.specs.Reply.{Reply, Up}
pub use Rattle.fork_model.specs.Step.{next}
pub use Rattle.fork_model.specs.Table.{Challenge, Ended, Idle, Kind, Offer, Row, Rung, State, StoredAnswer, Table, Trying, is_invite, is_open, is_row, is_trying, stored_of}
pub use Rattle.call_model.specs.Built.{Datagram, ack_to, answer_in, cancel_to, kept_at, request_to, status_of, text_of, was_received}
pub use Rattle.call_model.specs.Call.{Call, closed_by, found, nth_branch, row_passes, rows_of, set_branch, with_branch}
pub use Rattle.call_model.specs.Client.{ClientTransaction, client_after, client_out}
pub use Rattle.call_model.specs.Due.{FireTimerC, is_due_at}
pub use Rattle.call_model.specs.Failed.{FaultsBy, FaultsClient, cancel_faulted, faulted, faulted_cancel, is_fault}
pub use Rattle.call_model.specs.OpenedRequest.{OpenedRequest, Destination, kind_of}
pub use Rattle.call_model.specs.Branch.{CancelTransaction, Branch, branch_start}
pub use Rattle.call_model.specs.Closing.{ByCancel, Closing, NotClosed, closing_after}
pub use Rattle.call_model.specs.Reliability.{reliability_of}
pub use Rattle.call_state.specs.CallStateInside.{IsSized, closing_of}
pub use Rattle.call_model.specs.Posting.{Posts, call_tag, gone_on, no_branch, owed_by, owes, rows_more, destination_of_contact, destinations_of}
pub use Rattle.call_model.specs.Pump.{AnswersBy, AnswersWith, Did, FiresTimerC, OnPart, Pumped, Send, SendsAnswer, TicksClientBy, is_request, is_timeout, sent_if, stopped, ticked, without_timer_c}
pub use Rattle.call_model.specs.Response.{contacts_for, event_by}
pub use Rattle.call_model.specs.SeenDatagram.{seen}
pub use Rattle.call_model.specs.Server.{CancelOk, Owed, ServerTransaction, Server, first_owed, served_start}
pub use Rattle.call_model.specs.Sound.{IsForward, IsSound, StoresValues, is_text}
pub use Rattle.call_model.specs.Take.{Absorbed, CancelledBy, Full, Posted, RespondsOn, ack_by, answer_kept, cancels, going_up, is_passed, branch_after, branch_posted, response_event, timer_c_again}
pub use Rattle.call_state.specs.declared.answers.BuiltResponse.{BuiltResponse}
pub use Rattle.call_state.specs.inner.AnswersInside.{IsPaid, IsText}
pub use Rattle.call_branch.specs.AckOwed.{ack_on}
pub use Rattle.call_branch.specs.BranchInside.{ack_made, answer_if, cancel_on, changed_branch, kept, kept_if, no_branches, responded, with_client}
pub use Rattle.call_caller.specs.NewDestinations.{HaveDestinations, PostsSaid, destination_for}
pub use Rattle.call_state.specs.inner.Plain.{PostsBare}
pub use Rattle.sip_build.specs.Requests.{reason_lines}
pub use Rattle.sip_build.specs.SeenKept.{texts}
pub use Rattle.sip_build.specs.Upward.{is_challenge}
pub use Rattle.sip_text.specs.Message.{is_value}
pub use Rattle.sip_text.specs.Text.{MessageText, spelling}
pub use Rattle.sip_txn.specs.Machine.{machine_after, out_of}
pub use Rattle.sip_txn.specs.OtherClient.{other_client}
pub use Rattle.sip_txn.specs.declared.event.TxEvent.{TxEvent}
pub use Rattle.sip_txn.specs.declared.event.TxOut.{TxOut}
pub use Rattle.sip_txn.specs.declared.event.TxSend.{TxSend}
pub use Rattle.sip_txn.specs.declared.machine.Machine.{Machine}
pub use Rattle.sip_txn.specs.declared.other_client.OtherClientState.{OtherClientState}
pub use Rattle.sip_uri.specs.Contact.{ContactText}
pub use Rattle.sip_uri.specs.declared.hop.Hop.{Hop}

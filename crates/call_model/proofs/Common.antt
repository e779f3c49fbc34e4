-- The names that most proofs of this crate cite, passed on from one place. Declares nothing.
pub use Rattle.std.proofs.Common.{Bool, Err, IfSome, IsTrue, List, None, Ok, Option, Result, Some, [], ap, arith, codes, cond, false, inl, inr, is_some, length, map, nat_lt, not, refl, slice_get}
pub use Rattle.std.proofs.Common.{subst, suc, sym, true, zero, ℕ, ◌&&◌, ◌++◌, ◌+◌, ◌==◌, ◌||◌, ◌↔◌, ◌∙◌, ◌∷◌, ◌≡◌, ◌⊎◌}
pub use Rattle.std.proofs.lemmas.Bool.{and_from, and_parts, cond-false, cond-true}
pub use Rattle.std.proofs.lemmas.List.Folds.{list_all-append}
pub use Rattle.std.specs.List.{AllByRecursion, flat_map, list_all}
pub use Rattle.std.specs.Option.{option_map}
pub use Rattle.std.specs.Prelude.{unwrap_or}
pub use Rattle.fork_model.specs.Log.{Log, added, event_posted, events_of, table_of}
pub use Rattle.fork_model.specs.Chosen.{HasFirst, IsChosen}
pub use Rattle.fork_model.specs.Choice.{stored_at}
pub use Rattle.fork_model.specs.Event.{Answer, Event, FinalAnswer, Ring, TimerC}
pub use Rattle.fork_model.specs.ExactlyOne.{RowsStay}
pub use Rattle.fork_model.specs.Reply.{Reply, Up}
pub use Rattle.fork_model.specs.Sources.{HasStored, StoredAnswersCame, challenges_of, offers_of}
pub use Rattle.fork_model.specs.Step.{Effect, answers, change_at, closed_state, effect, next, settled, settled_row, with_effect, with_state}
pub use Rattle.fork_model.specs.Steps.{RowsKeepTheirNumbers}
pub use Rattle.fork_model.specs.Table.{Challenge, Ended, Idle, Kind, Row, Rules, Rung, State, StoredAnswer, Table, Trying, is_invite, is_open, is_row, is_trying, stored_of}
pub use Rattle.fork_model.specs.Waiting.{may_start}
pub use Rattle.call_model.specs.Built.{Datagram, ack_to, answer_in, answer_of, cancel_to, request_to, status_of}
pub use Rattle.call_model.specs.Call.{Call, found, nth_branch, row_passes, set_branch, with_branch}
pub use Rattle.call_model.specs.Client.{ClientTransaction, InviteClient, OtherClient, client_after, client_out}
pub use Rattle.call_model.specs.Datagrams.{IsBuilt, IsBuiltBranch}
pub use Rattle.call_model.specs.Due.{Action, FireTimerC, GiveUp, SendAck, SendAnswer, SendCancel, SendRequest, TickCancel, TickClient, TickServer, is_due_at}
pub use Rattle.call_model.specs.Failed.{Fails, FaultsBy, FaultsClient, cancel_faulted, faulted, faulted_cancel, is_fault}
pub use Rattle.call_model.specs.OpenedRequest.{OpenedRequest, Destination, kind_of}
pub use Rattle.call_model.specs.Branch.{CancelTransaction, Branch, branch_start}
pub use Rattle.call_model.specs.Posting.{Posts, call_tag, gone_on, no_branch, owed_by, owes}
pub use Rattle.call_model.specs.Pump.{AnswersBy, AnswersWith, Did, Does, FiresTimerC, Pumped, Pumps, Send, SendsAnswer, TicksClientBy, is_timeout, sent_if, stopped, ticked}
pub use Rattle.call_model.specs.Response.{challenge_in, challenges_by, contact_for, contacts_at, contacts_by, contacts_for, contacts_in, contacts_or, event_by, is_redirection, offer_of}
pub use Rattle.call_model.specs.Server.{Again, CancelOk, Final, Owed, Passed, Server, first_owed}
pub use Rattle.call_model.specs.Sound.{IsForward, IsSound, IsSoundOwed, StoresValues, awaits, invite_awaits, is_text, other_awaits}
pub use Rattle.call_model.specs.Take.{Absorbed, CancelledBy, Full, Posted, Responds, Taken, TakesAs, ack_by, answer_kept, going_up, is_passed, branch_after, branch_posted, response_event, timer_c_again}
pub use Rattle.call_model.specs.declared.cause.Cause.{Cause}
pub use Rattle.sip_build.specs.Upward.{is_challenge}
pub use Rattle.sip_lex.specs.Sheltered.{is_closed}
pub use Rattle.sip_lex.specs.declared.sheltered.Shelter.TheVariants.{QuotesAndAngles}
pub use Rattle.sip_text.specs.Message.{IsMessage, is_value}
pub use Rattle.sip_text.specs.Name.{values_of}
pub use Rattle.sip_text.specs.Text.{MessageText, spelling}
pub use Rattle.sip_txn.specs.InviteClient.{invite_client}
pub use Rattle.sip_txn.specs.Machine.{row_out}
pub use Rattle.sip_txn.specs.OtherClient.{other_client}
pub use Rattle.sip_txn.specs.declared.event.TxEvent.{TxEvent}
pub use Rattle.sip_txn.specs.declared.event.TxSend.{TxSend}
pub use Rattle.sip_txn.specs.declared.invite_client.InviteClientState.{InviteClientState}
pub use Rattle.sip_txn.specs.declared.machine.Machine.{Machine}
pub use Rattle.sip_txn.specs.declared.other_client.OtherClientState.{OtherClientState}
pub use Rattle.sip_uri.specs.Contact.{ContactText, Form, are_items, contact_of, contact_of_form, contact_params, form_of, is_contact_param, items_behind}
pub use Rattle.sip_uri.specs.declared.fault.UriFault.{UriFault}
pub use Rattle.sip_uri.specs.declared.fault.UriFault.TheVariants.{BadText}
pub use Rattle.sip_uri.specs.declared.hop.Hop.{Hop}

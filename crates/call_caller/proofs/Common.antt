-- The names that most proofs of this crate cite, passed on from one place. Declares nothing.
pub use Rattle.std.proofs.Common.{Bool, Err, List, None, Ok, Option, Result, Some, [], ap, append-nil, arith, codes, cond, drop, false, filter, filter_map, is_some, length, map, nat_lt, not, refl, slice_get}
pub use Rattle.std.proofs.Common.{slice_set, subst, suc, sym, take, true, zero, ℕ, ◌&&◌, ◌++◌, ◌+◌, ◌<◌, ◌==◌, ◌||◌, ◌∙◌, ◌∷◌, ◌≡◌, ◌≢◌, ◌≤◌}
pub use Rattle.std.proofs.lemmas.Bool.{and_from, and_parts}
pub use Rattle.std.proofs.lemmas.List.Folds.{list_all-append}
pub use Rattle.std.specs.List.{AllByRecursion, cons_option, flat_map, list_all}
pub use Rattle.std.specs.Option.{option_and_then, option_map}
pub use Rattle.std.specs.Prelude.{unwrap_or}
pub use Rattle.std.specs.Vec.Iter.{into_iter_items}
pub use Rattle.fork_model.specs.Log.{table_of}
pub use Rattle.fork_model.specs.Event.{Answer, Event, FinalAnswer, Ring}
pub use Rattle.fork_model.specs.Groups.{numbers_below}
pub use Rattle.fork_model.specs.Step.{Effect, answers, change_at, effect, next, settled, settled_row, with_effect, with_state}
pub use Rattle.fork_model.specs.Table.{Ended, Idle, Offer, Row, Rung, State, Table, Trying}
pub use Rattle.call_model.specs.OpenedRequest.{OpenedRequest, Destination}
pub use Rattle.call_model.specs.Branch.{Branch}
pub use Rattle.call_model.specs.Posting.{no_branch, destination_of_contact, destinations_of}
pub use Rattle.call_model.specs.Response.{challenge_in, challenges_by, contact_for, contacts_at, contacts_by, contacts_for, contacts_in, contacts_or, event_by, is_redirection, offer_of}
pub use Rattle.call_model.specs.Server.{Owed}
pub use Rattle.call_caller.specs.NewDestinations.{HaveDestinations, IsNone, count_in, place_of, destination_for, without}
pub use Rattle.sip_lex.specs.Sheltered.{is_closed}
pub use Rattle.sip_lex.specs.declared.sheltered.Shelter.TheVariants.{QuotesAndAngles}
pub use Rattle.sip_text.specs.Name.{values_of}
pub use Rattle.sip_text.specs.Text.{MessageText}
pub use Rattle.sip_uri.specs.Contact.{ContactText, Form, are_items, contact_of, contact_of_form, contact_params, form_of, is_contact_param, items_behind, q_of, takeable}
pub use Rattle.sip_uri.specs.Reading.{read_uri}
pub use Rattle.sip_uri.specs.SeenContact.{view_contacts}
pub use Rattle.sip_uri.specs.Uri.{Uri}
pub use Rattle.sip_uri.specs.declared.fault.UriFault.{UriFault}
pub use Rattle.sip_uri.specs.declared.fault.UriFault.TheVariants.{BadText}
pub use Rattle.sip_uri.specs.declared.hop.Hop.{Hop}

-- The names that most proofs of this crate cite, passed on from one place. Declares nothing.
pub use Rattle.std.proofs.Common.{Bool, Err, IfOk, List, None, Ok, Option, Result, Some, [], ap, arith, codes, false, map, refl, subst, suc, sym, take, true, zero, ℕ, ◌&&◌, ◌<◌, ◌∙◌, ◌≡◌}
pub use Rattle.std.proofs.lemmas.Option.{same_Some}
pub use Rattle.std.specs.List.{list_all}
pub use Rattle.std.specs.Option.{option_map}
pub use Rattle.fork_model.specs.Log.{table_of}
pub use Rattle.fork_model.specs.Table.{Rules}
pub use Rattle.call_model.specs.Call.{Call, is_sent}
pub use Rattle.call_model.specs.OpenedRequest.{OpenedRequest, method_of}
pub use Rattle.proxy_routing.specs.Admission.{IsAdmitted, target_uri}
pub use Rattle.call_state.specs.Kinds.{is_to_method}
pub use Rattle.fork_call.specs.Opening.{IsBegun}
pub use Rattle.proxy_routing.specs.Refusing.{IsTurnedAway}
pub use Rattle.proxy_routing.specs.Targets.{CandidateTarget, has_hop, targets_of}
pub use Rattle.fork_call.specs.Destinations.{destination_of_row}
pub use Rattle.sip_text.specs.Fields.{message_cseq}
pub use Rattle.sip_text.specs.Text.{MessageText, StartText}
pub use Rattle.sip_via.specs.TopVia.{top_value}
pub use Rattle.sip_via.specs.ViaParts.{via_of}
pub use Rattle.sip_via.specs.declared.own.Own.{Own}

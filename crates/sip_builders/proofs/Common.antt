-- The names that most proofs of this crate cite, passed on from one place. Declares nothing.
pub use Rattle.std.proofs.Common.{Bool, IfSome, List, None, Ok, Option, Result, Some, [], ap, append_assoc, arith, codes, cond, drop, eqb, false, inl, inr, is_none, length, map, not, option_map, refl, reverse, rules}
pub use Rattle.std.proofs.Common.{slice_index, subst, sym, take, true, ℕ, ◌&&◌, ◌++◌, ◌-◌, ◌<◌, ◌^◌, ◌∙◌, ◌∷◌, ◌≡◌, ◌≢◌}
pub use Rattle.std.proofs.lemmas.Bool.{and_from, and_parts, cases_Bool, cond-false, cond-true, cond_both, false≢true}
pub use Rattle.std.proofs.lemmas.Fmt.{decimal_nonempty, digits_decimal}
pub use Rattle.std.proofs.lemmas.Grind.{common_steps}
pub use Rattle.std.proofs.lemmas.List.{append-nil, drop_at, reverse-append}
pub use Rattle.std.proofs.lemmas.List.Folds.{list_all-append}
pub use Rattle.std.proofs.lemmas.Slice.Eq.{bytes_eq-Decides}
pub use Rattle.std.specs.Char.{is_ascii_digit}
pub use Rattle.std.specs.Fmt.{decimal}
pub use Rattle.std.specs.List.{AllByRecursion, filter, flat_map, list_all, onto_first}
pub use Rattle.std.specs.Str.{bytes_eq, str_to_ascii_lowercase}
pub use Rattle.md5.specs.Md5.{md5}
pub use Rattle.sip_lex.proofs.laws.Cuts.{cut_again}
pub use Rattle.sip_lex.proofs.laws.Numbers.{own}
pub use Rattle.sip_lex.proofs.laws.OutsideSplits.{pieces_outside-cut}
pub use Rattle.sip_lex.proofs.laws.Shelters.{cut_outside_again}
pub use Rattle.sip_lex.proofs.laws.Splits.{joined, joined-behind}
pub use Rattle.sip_lex.proofs.laws.Trims.{trim_end-reverse, trim_end-whole, trim_start-none, trim_start-spaces}
pub use Rattle.sip_lex.specs.Bytes.{is_space, is_token, trim, trim_end, trim_start}
pub use Rattle.sip_lex.specs.Cut.{behind, cut, is}
pub use Rattle.sip_lex.specs.Number.{number_within}
pub use Rattle.sip_lex.specs.Outside.{pieces_from, pieces_outside_behind}
pub use Rattle.sip_lex.specs.Sheltered.{cut_outside, is_plain, place_after}
pub use Rattle.sip_lex.specs.declared.sheltered.ShelterState.{ShelterState}
pub use Rattle.sip_lex.specs.declared.sheltered.ShelterState.TheVariants.{Plain}
pub use Rattle.sip_lex.specs.declared.sheltered.Shelter.TheVariants.{Quotes}
pub use Rattle.sip_text.proofs.laws.Good.{and_both, found}
pub use Rattle.sip_text.specs.Fields.{CSeqText, cseq_in, cseq_of, cseq_with, fits_start, length_name, message_cseq, said_by, value_of}
pub use Rattle.sip_text.specs.Message.{IsMessage, fits_body, is_header, is_line, is_line_byte, is_start, is_trimmed, is_value}
pub use Rattle.sip_text.specs.Name.{first_of, first_value, same_name}
pub use Rattle.sip_text.specs.Reading.{is_uri}
pub use Rattle.sip_lex.specs.Values.{begins_with_space}
pub use Rattle.sip_text.specs.Text.{HeaderText, MessageText, Request, Response, StartText}
pub use Rattle.sip_text.specs.declared.needed.MandatoryHeader.TheVariants.{CSeq, CallId, From, To, Via}
pub use Rattle.sip_uri.specs.Host.{IsHost, IsPort}
pub use Rattle.sip_uri.specs.Uri.{Uri, request_uri}
pub use Rattle.sip_uri.specs.declared.hop.Hop.{Hop}
pub use Rattle.sip_via.proofs.laws.PlainVia.{is-not}
pub use Rattle.sip_via.proofs.laws.Replaced.{SameOthers, all-replaced, apart, values-replaced}
pub use Rattle.sip_via.proofs.laws.Tokens.{decimal_high, high_line, high_no_space, is_high, no_space}
pub use Rattle.sip_branch.proofs.laws.Tokens.{all_pass}
pub use Rattle.sip_via.specs.Address.{IsAddress, address_text, dotted}
pub use Rattle.sip_via.specs.Edits.{line, replaced}
pub use Rattle.sip_route.specs.Lines.{first_line, has_name, lines_as, lines_named}
pub use Rattle.sip_via.specs.OwnVia.{own_via}
pub use Rattle.sip_via.specs.Received.{IsSource, asks_port, filled, gets_received, marked_line, marked_param, marked_parts, marked_value, received_text}
pub use Rattle.sip_via.specs.TopVia.{first_or_empty, has_second, top_value, values_in, via_values}
pub use Rattle.sip_via.specs.ViaGrammar.{AreParamGaps, AreViaGaps, IsSpace, IsValue, IsVia, IsViaParam, ParamGaps, ViaGaps, param_spelling, spaced, spelling}
pub use Rattle.sip_via.specs.ViaParts.{ViaText, are_parts, branch_of, first_named, is_named, is_value_byte, is_via, name_of, or_empty, parts_of, read_via, via_of}
pub use Rattle.sip_branch.specs.declared.branch.BranchName.{BranchName}
pub use Rattle.sip_via.specs.declared.own.Own.{Own}
pub use Rattle.sip_via.specs.declared.own.ViaFault.{ViaFault}
pub use Rattle.sip_route.specs.Hops.{IsHops, hops_name}
pub use Rattle.sip_route.specs.Loop.{field_lines, number_text}
pub use Rattle.sip_build.specs.Exchanged.{exchanged, is_other}
pub use Rattle.sip_build.specs.Forwarding.{forwarded, hops_lowered, is_request, to_target}
pub use Rattle.sip_build.specs.Generated.{code_of, generated_of, gets_tag, reason_of, tagged, to_lines, unsupported_lines, with_tag}
pub use Rattle.sip_build.specs.Requests.{along, to_value}
pub use Rattle.sip_build.specs.SeenKept.{seen_kept}
pub use Rattle.sip_build.specs.Upward.{challenge_line, challenge_name, contact_lines, others_of, upward_headers, upward_of, with_contacts, without_top}
pub use Rattle.sip_build.specs.declared.responses.OwnStatus.{OwnStatus}

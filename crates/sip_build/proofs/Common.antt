-- The names that most proofs of this crate cite, passed on from one place. Declares nothing.
pub use Rattle.std.proofs.Common.{Bool, List, None, OnOk, Option, Some, [], ap, append_assoc, arith, codes, cond, drop, eqb, false, if◌then◌else◌, inl, inr, length, map, not, option_map, refl, rules, subst, suc, sym, take}
pub use Rattle.std.proofs.Common.{true, ℕ, ◌&&◌, ◌*◌, ◌++◌, ◌+◌, ◌-◌, ◌<◌, ◌^◌, ◌∙◌, ◌∷◌, ◌≡◌, ◌≤◌, OnErr, Result, get_or}
pub use Rattle.std.proofs.lemmas.Bool.{and_parts, cases_Bool, cond-false, cond-true, cond_both, false≢true}
pub use Rattle.std.proofs.lemmas.List.{append-nil, drop-map, length-append}
pub use Rattle.std.proofs.lemmas.List.Folds.{flat_map-map, list_all-append}
pub use Rattle.std.specs.Borrow.{Bor}
pub use Rattle.std.specs.Fmt.{decimal}
pub use Rattle.std.specs.List.{filter, flat_map, list_all, onto_first}
pub use Rattle.std.specs.Option.{option_copied}
pub use Rattle.std.proofs.lemmas.Fmt.{decimal_digit, decimal_step}
pub use Rattle.std.proofs.lemmas.Grind.{common_steps, flat_map-append}
pub use Rattle.sip_lex.proofs.laws.Trims.{trim_end-reverse}
pub use Rattle.sip_lex.specs.Bytes.{is_space, trim, trim_end, trim_start}
pub use Rattle.sip_lex.specs.Cut.{cut}
pub use Rattle.sip_lex.specs.Line.{ended}
pub use Rattle.sip_lex.specs.Number.{number_within, begins_with_zero}
pub use Rattle.sip_lex.specs.Outside.{pieces_from}
pub use Rattle.sip_lex.specs.declared.sheltered.ShelterState.TheVariants.{Plain}
pub use Rattle.sip_lex.specs.declared.sheltered.Shelter.TheVariants.{Quotes}
pub use Rattle.sip_route.specs.Hops.{hops_name}
pub use Rattle.sip_route.specs.Loop.{number_text}
pub use Rattle.sip_text.proofs.laws.Good.{and_both}
pub use Rattle.sip_text.specs.Fields.{cseq_in, cseq_of_cut, cseq_with, fits_start}
pub use Rattle.sip_text.specs.Message.{is_value}
pub use Rattle.sip_text.specs.Name.{first_of, first_value, same_name, values_of}
pub use Rattle.sip_text.specs.Seen.{view_line, view_lines, views}
pub use Rattle.sip_text.specs.Text.{HeaderText, MessageText, Request, Response, StartText, header_text, start_line}
pub use Rattle.sip_lex.specs.Texts.{pieces_text, saturated}
pub use Rattle.sip_uri.specs.Uri.{Uri, request_uri}
pub use Rattle.sip_via.proofs.laws.Places.{replaced-split}
pub use Rattle.sip_via.proofs.laws.PlainVia.{is-not}
pub use Rattle.sip_via.proofs.laws.Replaced.{SameOthers, apart, values-replaced}
pub use Rattle.sip_branch.proofs.laws.Tokens.{all_pass}
pub use Rattle.sip_via.specs.Address.{address_text}
pub use Rattle.sip_branch.specs.BranchText.{branch_text}
pub use Rattle.sip_via.specs.Edits.{line, line_if_any, place_of, replaced, with_headers}
pub use Rattle.sip_lex.specs.HexPair.{hex_text}
pub use Rattle.sip_route.specs.Lines.{lines_among}
pub use Rattle.sip_via.specs.OwnVia.{own_via}
pub use Rattle.sip_via.specs.TopVia.{values_in, via_values}
pub use Rattle.sip_via.specs.ViaParts.{or_empty}
pub use Rattle.sip_branch.specs.declared.branch.BranchName.{BranchName}
pub use Rattle.sip_via.specs.declared.own.Own.{Own}
pub use Rattle.sip_build.specs.Exchanged.{exchanged, is_other}
pub use Rattle.sip_build.specs.Forwarding.{forwarded, hops_lowered, is_request, record_route_lines, to_target}
pub use Rattle.sip_build.specs.Generated.{code_of, generated_of, reason_of, timestamp_lines, to_lines, unsupported_lines}
pub use Rattle.sip_build.specs.Requests.{along, along_to, to_value}
pub use Rattle.sip_build.specs.SeenKept.{seen_kept, texts}
pub use Rattle.sip_build.specs.Upward.{challenge_line, challenge_name, contact_lines, upward_of}
pub use Rattle.sip_build.specs.declared.responses.OwnStatus.{OwnStatus}
pub use Rattle.sip_build.specs.inner.HeaderRuns.{lines_of, picked, start_of, tail_text, under}
pub use Rattle.sip_build.specs.inner.Placed.{Placed}
pub use Rattle.sip_build.specs.inner.Texts.{lines_text}

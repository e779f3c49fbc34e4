-- The names that most proofs of this crate cite, passed on from one place. Declares nothing.
pub use Rattle.std.proofs.Common.{Bool, Err, IfSome, List, None, Ok, Option, Result, Some, [], ap, append_assoc, arith, codes, cond, drop, eqb, false, get_or, inl, inr, is_none, length, ltb, map, nat_le, not, option_map, refl, reverse}
pub use Rattle.std.proofs.Common.{slice_get, slice_set, subst, suc, sym, take, true, zero, ℕ, ◌%◌, ◌&&◌, ◌*◌, ◌++◌, ◌+◌, ◌-◌, ◌/◌, ◌<◌, ◌^◌, ◌||◌, ◌∙◌, ◌∷◌, ◌≡◌, ◌≢◌, ◌≤◌, rules}
pub use Rattle.std.proofs.lemmas.Bool.{and_from, and_parts, cases_Bool, cond-false, cond-true, cond_both, eqb-true, false_from_ne_true, false≢true, leb-true, or_cases}
pub use Rattle.std.proofs.lemmas.Fmt.{digits_decimal, length-decimal-le}
pub use Rattle.std.proofs.lemmas.List.{append-nil, drop_all, drop_at, length-append, length-set, reverse-append, reverse-reverse, take-append-drop, take_all, take_at}
pub use Rattle.std.proofs.lemmas.List.Folds.{list_all-append}
pub use Rattle.std.proofs.lemmas.Slice.Eq.{bytes_eq-Decides}
pub use Rattle.std.specs.Borrow.{Bor}
pub use Rattle.std.specs.Char.{is_ascii_digit, to_ascii_lowercase}
pub use Rattle.std.specs.Fmt.{decimal}
pub use Rattle.std.specs.List.{AllByRecursion, flat_map, list_all, list_any, prefix_len, suffix_len}
pub use Rattle.std.specs.Option.{option_copied}
pub use Rattle.std.specs.Str.{bytes_eq, str_to_ascii_lowercase}
pub use Rattle.std.proofs.lemmas.Grind.{common_steps}
pub use Rattle.sip_lex.proofs.laws.Cuts.{cut_again, cut_joins}
pub use Rattle.sip_lex.proofs.laws.Numbers.{number_read, own}
pub use Rattle.sip_lex.proofs.laws.OutsideSplits.{pieces_outside-cut, pieces_from_join}
pub use Rattle.sip_lex.proofs.laws.Shelters.{cut_outside_again, cut_outside_joins}
pub use Rattle.sip_lex.proofs.laws.Splits.{joined, joined-behind}
pub use Rattle.sip_lex.proofs.laws.Trims.{token_byte-space, token_bytes, trim_end-reverse, trim_end-whole, trim_start-none, trim_start-spaces, trim_start-whole}
pub use Rattle.sip_lex.specs.Bytes.{is_space, is_token, is_token_byte, trim, trim_end, trim_start}
pub use Rattle.sip_lex.specs.Cut.{Lacks, behind, cut, is}
pub use Rattle.sip_lex.specs.Hex.{hex_digit}
pub use Rattle.sip_lex.specs.Outside.{pieces_outside, pieces_outside_behind}
pub use Rattle.sip_lex.specs.Quoted.{quoted_at}
pub use Rattle.sip_lex.specs.Sheltered.{cut_outside, place_after}
pub use Rattle.sip_lex.specs.declared.sheltered.ShelterState.{ShelterState}
pub use Rattle.sip_lex.specs.declared.sheltered.ShelterState.TheVariants.{Plain}
pub use Rattle.sip_lex.specs.declared.sheltered.Shelter.TheVariants.{Quotes}
pub use Rattle.sip_text.proofs.laws.Good.{and_both, trim_trimmed}
pub use Rattle.sip_text.specs.Message.{IsMessage, is_header, is_line, is_line_byte, is_trimmed, is_value}
pub use Rattle.sip_text.specs.Name.{first_of, first_value, same_name}
pub use Rattle.sip_lex.specs.Values.{begins_with_space}
pub use Rattle.sip_text.specs.Change.{valued_at, with_value_at}
pub use Rattle.sip_text.specs.Seen.{view_line, views}
pub use Rattle.sip_text.specs.Text.{HeaderText, MessageText}
pub use Rattle.sip_uri.proofs.laws.Hosts.{other_than}
pub use Rattle.sip_uri.specs.Host.{IsHost, IsPort, host_len, is_address_byte, is_host_byte}
pub use Rattle.sip_uri.specs.declared.hop.Hop.{Hop}
pub use Rattle.sip_via.specs.Address.{IsAddress, address_text, dotted}
pub use Rattle.sip_branch.specs.BranchText.{IsBranch, branch_text, cookie}
pub use Rattle.sip_via.specs.Edits.{begins_named, changed_first, line, line_if_any, place_of, replaced, with_headers}
pub use Rattle.sip_lex.specs.HexPair.{hex_pair, hex_text}
pub use Rattle.sip_via.specs.OwnVia.{IsOwn, own_via}
pub use Rattle.sip_via.specs.Received.{IsSource, asks_port, filled, first_via_line, gets_received, marked_line, marked_param, marked_parts, marked_value, received_text, with_via_line}
pub use Rattle.sip_via.specs.TopVia.{values_in}
pub use Rattle.sip_via.specs.ViaGrammar.{AreParamGaps, AreViaGaps, IsSpace, IsValue, IsVia, IsViaParam, ParamGaps, ViaGaps, param_spelling, param_text, spaced, spelling, tail_spelling}
pub use Rattle.sip_via.specs.ViaParts.{Parts, ViaText, are_parts, first_named, is_named, is_param, is_value_byte, is_value_if_any, is_via, is_whole, name_of, or_empty, params_of, parts_of, port_and_params, read_via, value_of, via_of}
pub use Rattle.sip_branch.specs.declared.branch.BranchName.{BranchName}
pub use Rattle.sip_via.specs.declared.own.Own.{Own}
pub use Rattle.sip_via.specs.declared.own.ViaFault.{ViaFault}
pub use Rattle.sip_via.specs.declared.own.ViaFault.TheVariants.{BadVia}
pub use Rattle.sip_branch.specs.inner.BranchParts.{BranchParts, branch_parts, with_key}
pub use Rattle.sip_via.specs.inner.Fronts.{behind_address, behind_marked, is_end, behind_text}
pub use Rattle.sip_via.specs.OwnPass.{IsOwnBranch}
pub use Rattle.sip_via.specs.SeenVia.{values_behind}

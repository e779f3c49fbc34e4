-- The names that most proofs of this crate cite, passed on from one place. Declares nothing.
pub use Rattle.std.proofs.Common.{Bool, Err, List, None, Ok, Option, Result, Some, [], ap, append_assoc, arith, codes, cond, drop, eqb, false, get_or, inl, inr, leb, length, length-take, ltb, map, not, refl, reverse, subst, suc, sym, take, true}
pub use Rattle.std.proofs.Common.{zero, ℕ, ◌%◌, ◌&&◌, ◌++◌, ◌+◌, ◌-◌, ◌/◌, ◌<◌, ◌∙◌, ◌∷◌, ◌≡◌, ◌≢◌, ◌≤◌, rules}
pub use Rattle.std.proofs.lemmas.Bool.{and_parts, cases_Bool, cond-false, cond-true, cond_both, eq-eqb, eqb-true, false_from_ne_true, false≢true, le-leb, leb-true, ne_eqb}
pub use Rattle.std.proofs.lemmas.List.{append-nil, length-append, take-append-drop}
pub use Rattle.std.proofs.lemmas.List.Folds.{list_all-append}
pub use Rattle.std.proofs.lemmas.Slice.Eq.{bytes_eq-Decides}
pub use Rattle.std.specs.Char.{is_ascii_digit}
pub use Rattle.std.specs.List.{AllByRecursion, flat_map, join_with_byte, list_all, prefix_len, suffix_len}
pub use Rattle.std.specs.Option.{option_copied}
pub use Rattle.std.specs.Str.{bytes_eq, str_to_ascii_lowercase}
pub use Rattle.std.proofs.lemmas.Grind.{common_steps}
pub use Rattle.sip_lex.proofs.laws.Cuts.{cut_joins, cut_lacks}
pub use Rattle.sip_lex.proofs.laws.Lines.{line_at-again, line_at-takes}
pub use Rattle.sip_lex.proofs.laws.Trims.{token_byte-space, token_bytes, trim-space}
pub use Rattle.sip_lex.specs.Bytes.{is_space, is_token, is_token_byte, trim, trim_end, trim_start, is_printed}
pub use Rattle.sip_lex.specs.Cut.{behind, cut, is}
pub use Rattle.sip_lex.specs.Line.{IsLine, ended, line_at, line_in, skip_line_ends}
pub use Rattle.sip_lex.specs.Outside.{pieces_outside_behind}
pub use Rattle.sip_lex.specs.Pieces.{pieces}
pub use Rattle.sip_lex.specs.declared.sheltered.Shelter.TheVariants.{QuotesAndAngles}
pub use Rattle.sip_text.specs.Fault.{FailsAs, Gives, fault_seen}
pub use Rattle.sip_text.specs.Fields.{cseq_fits, missing, said_length, says}
pub use Rattle.sip_text.specs.Grammar.{AreHeaders, IsBody, IsFull, IsHeader, IsStartLine, IsText, blank_lines}
pub use Rattle.sip_text.specs.Message.{IsMessage, after_headers, after_line, after_start, fits_body, head_of, if_present, is_header, is_line, is_line_byte, is_start, is_trimmed, is_value, read_at, zeroed}
pub use Rattle.sip_text.specs.Name.{same_name, values_of}
pub use Rattle.sip_text.specs.Reading.{BadCSeq, BadHeader, BadLength, BadStart, BadStatus, BadVersion, Fault, Group, Headers, Lacks, Lines, Short, after_uri, before_group, begins_with_sip, closed, header_of, header_of_cut}
pub use Rattle.sip_lex.specs.Values.{begins_with_space}
pub use Rattle.sip_text.specs.Reading.{headers_at, is_status, is_uri, is_version, joined, lines_at, lines_from, number_of, part_text, request_of, response_of, start_of, status_of, tail_at, tail_of_group, tail_of_lines, with_header}
pub use Rattle.sip_text.specs.Reading.{with_line}
pub use Rattle.sip_text.specs.Change.{valued_at, with_part_at, with_value_at, without_line_at}
pub use Rattle.sip_text.specs.Seen.{header_in, headers_in, start_in, view_line, view_lines, view_start, views}
pub use Rattle.sip_lex.specs.Places.{part_at}
pub use Rattle.sip_text.specs.StartFaults.{HasStartFault}
pub use Rattle.sip_lex.specs.Tag.{tag_of_params}
pub use Rattle.sip_text.specs.Text.{HeaderText, MessageText, Request, Response, StartText, header_text, start_line, status_text}
pub use Rattle.sip_lex.specs.Texts.{pieces_text, saturated}
pub use Rattle.sip_text.specs.declared.fields.BodyLength.{BodyLength}
pub use Rattle.sip_text.specs.declared.fields.BodyLength.TheVariants.{Bytes, Unsaid, Wrong}
pub use Rattle.sip_text.specs.declared.needed.MandatoryHeader.{MandatoryHeader}
pub use Rattle.sip_text.specs.inner.Heads.{continued, or_bad, prepended, valued, with_part}

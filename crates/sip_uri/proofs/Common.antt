-- The names that most proofs of this crate cite, passed on from one place. Declares nothing.
pub use Rattle.std.proofs.Common.{Bool, Err, IfNone, IfOk, IfSome, List, None, Ok, OnSome, Option, Ordering, Result, Some, [], ap, append_assoc, arith, codes, cond, drop, eqb, false, fold, if◌then◌else◌, inl, inr, leb, length, length-take, ltb, map}
pub use Rattle.std.proofs.Common.{not, refl, subst, suc, sym, take, true, vec_len, ℕ, ◌&&◌, ◌++◌, ◌+◌, ◌-◌, ◌||◌, ◌∙◌, ◌∷◌, ◌≡◌, ◌≢◌, ◌≤◌, rules}
pub use Rattle.std.proofs.lemmas.Bool.{and_from, and_parts, cases_Bool, cond-false, cond-true, cond_both, eqb-false, eqb-true, false_from_ne_true, false≢true, le-leb, leb-true, lt-ltb, ltb-true, or_cases}
pub use Rattle.std.proofs.lemmas.Grind.{common_steps}
pub use Rattle.std.proofs.lemmas.List.{append-nil, drop_at, length-append, length-map, take-append-drop, take_at, take_rest}
pub use Rattle.std.proofs.lemmas.Option.{same_Some}
pub use Rattle.std.specs.Char.{is_ascii_digit, to_ascii_lowercase}
pub use Rattle.std.specs.Cmp.Lexicographic.{slice_cmp}
pub use Rattle.std.specs.List.{AllByRecursion, list_all, onto_first, prefix_len}
pub use Rattle.std.specs.Option.{option_copied}
pub use Rattle.std.specs.Ordering.{match_ordering, nat_cmp}
pub use Rattle.std.specs.Str.{str_to_ascii_lowercase}
pub use Rattle.std.specs.declared.cmp.Ordering.TheVariants.{Equal, Greater, Less}
pub use Rattle.sip_lex.proofs.laws.Cuts.{Lacks-append, Lacks-pass, cut_again, cut_joins, cut_lacks}
pub use Rattle.sip_lex.proofs.laws.OutsideSplits.{pieces_outside-cut}
pub use Rattle.sip_lex.proofs.laws.Shelters.{cut_outside_again}
pub use Rattle.sip_lex.proofs.laws.Splits.{joined, joined-behind, pieces-cut, pieces_again, pieces_behind_join}
pub use Rattle.sip_lex.specs.Bytes.{is_space, trim, trim_start}
pub use Rattle.sip_lex.specs.Cut.{Lacks, behind, cut, is}
pub use Rattle.sip_lex.specs.Number.{number}
pub use Rattle.sip_lex.specs.Outside.{pieces_from, pieces_outside}
pub use Rattle.sip_lex.specs.Pieces.{pieces, pieces_behind}
pub use Rattle.sip_lex.specs.Sheltered.{LacksOutside, cut_outside, end_place, is_closed, is_plain, place_after}
pub use Rattle.sip_lex.specs.Values.{is_line, is_value}
pub use Rattle.sip_lex.specs.declared.sheltered.ShelterState.{ShelterState}
pub use Rattle.sip_lex.specs.declared.sheltered.ShelterState.TheVariants.{Plain}
pub use Rattle.sip_lex.specs.declared.sheltered.Shelter.TheVariants.{QuotesAndAngles}
pub use Rattle.sip_uri.specs.Contact.{ContactText, Form, are_items, contact_of, contact_params, form_of, is_contact_param, items_behind, q_of, q_value_if_any}
pub use Rattle.sip_uri.specs.Fault.{Gives}
pub use Rattle.sip_uri.specs.Grammar.{IsParam, IsUri, is_uri_byte}
pub use Rattle.sip_uri.specs.Hop.{hop_if_read}
pub use Rattle.sip_uri.specs.Host.{BeginsWithEnd, IsHost, IsPort, LacksEnds, ends_host, host_len, is_address_byte, is_host, is_host_byte}
pub use Rattle.sip_uri.specs.Items.{AreItems}
pub use Rattle.sip_uri.specs.Kept.{IsKept}
pub use Rattle.sip_uri.specs.Key.{add_distinct, counted, key_params}
pub use Rattle.sip_uri.specs.Reading.{Parts, is_full, is_param, is_port_if_any, is_sip, or_fault, parts_of, port_and_params, read_uri, uri_of, user_of}
pub use Rattle.sip_uri.specs.SeenContact.{view_contacts}
pub use Rattle.sip_uri.specs.Uri.{Uri, is_method, param_text, params_text, request_uri, requested, rest_text, spelling, user_text, without_methods}
pub use Rattle.sip_uri.specs.declared.checks.Progress.TheVariants.{Begun}
pub use Rattle.sip_uri.specs.declared.fault.UriFault.{UriFault}
pub use Rattle.sip_uri.specs.declared.fault.UriFault.TheVariants.{BadHost, BadPort, BadText, NotSip}
pub use Rattle.sip_uri.specs.inner.Checked.{named_fault}
pub use Rattle.sip_uri.specs.inner.Key.{parts_key}
pub use Rattle.sip_uri.specs.inner.Progress.{is_whole, progress_after}
pub use Rattle.sip_uri.specs.inner.Seen.{key_lists, parts}
pub use Rattle.sip_uri.specs.inner.Tail.{front_len, params_in}

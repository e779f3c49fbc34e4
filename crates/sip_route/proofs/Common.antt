-- The names that most proofs of this crate cite, passed on from one place. Declares nothing.
pub use Rattle.std.proofs.Common.{Bool, IfSome, IsTrue, List, None, Option, Some, [], ap, append_assoc, arith, cond, drop, eqb, false, get_or, inl, inr, length, map, option_map, refl, remove, slice_set, subst, suc, sym, take, true, zero, ℕ, ◌&&◌}
pub use Rattle.std.proofs.Common.{◌++◌, ◌+◌, ◌-◌, ◌<◌, ◌↔◌, ◌∙◌, ◌∷◌, ◌≡◌, ◌≤◌}
pub use Rattle.std.proofs.lemmas.Bool.{and_parts, cases_Bool, cond-false, cond-true, cond_both, eqb-true, false≢true, eq-eqb, false_from_ne_true}
pub use Rattle.std.specs.Borrow.{Bor}
pub use Rattle.std.specs.List.{join_with_byte, list_all, onto_first, prefix_len}
pub use Rattle.std.specs.Option.{option_copied}
pub use Rattle.std.specs.Str.{bytes_eq, str_to_ascii_lowercase}
pub use Rattle.std.proofs.lemmas.Grind.{common_steps}
pub use Rattle.std.proofs.lemmas.Slice.Eq.{bytes_eq-Decides}
pub use Rattle.std.specs.Char.{to_ascii_lowercase}
pub use Rattle.std.specs.Prelude.{codes, ◌==◌}
pub use Rattle.md5.specs.Md5.{Holds}
pub use Rattle.sip_lex.specs.Bytes.{is_space, trim, trim_end, trim_start}
pub use Rattle.sip_lex.specs.Outside.{pieces_from}
pub use Rattle.sip_lex.specs.Sheltered.{cut_outside, is_plain, place_after}
pub use Rattle.sip_lex.specs.declared.sheltered.ShelterState.{ShelterState}
pub use Rattle.sip_lex.specs.declared.sheltered.ShelterState.TheVariants.{Plain}
pub use Rattle.sip_lex.specs.declared.sheltered.Shelter.TheVariants.{QuotesAndAngles}
pub use Rattle.sip_text.specs.Message.{IsMessage}
pub use Rattle.sip_text.specs.Name.{first_of, first_value, same_name}
pub use Rattle.sip_text.specs.Seen.{view_line, views}
pub use Rattle.sip_text.specs.Text.{HeaderText, MessageText}
pub use Rattle.sip_via.specs.Edits.{line, replaced, with_headers}
pub use Rattle.sip_via.specs.OwnPass.{IsOwnPass}
pub use Rattle.sip_via.specs.Sender.{sender_port}
pub use Rattle.sip_via.specs.TopVia.{via_values}
pub use Rattle.sip_via.specs.declared.own.Own.{Own}
pub use Rattle.sip_route.specs.Hops.{hops_name}
pub use Rattle.sip_route.specs.RequestKey.{IsSameSender, key_text, key_with, via_key}
pub use Rattle.sip_route.specs.RouteValues.{route_values, values_in}
pub use Rattle.sip_route.specs.Routes.{names_own, route_name, stripped, stripped_at, stripped_headers}
pub use Rattle.sip_route.specs.inner.Loop.{behind_commas}
pub use Rattle.sip_route.specs.inner.LoopTest.{IsOwnValue}
pub use Rattle.sip_route.specs.inner.RouteValues.{values_behind}
pub use Rattle.sip_route.specs.inner.Stripping.{LineLeaves, part}

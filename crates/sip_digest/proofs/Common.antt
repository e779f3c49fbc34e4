-- The names that most proofs of this crate cite, passed on from one place. Declares nothing.
pub use Rattle.std.proofs.Common.{Bool, List, None, Option, Some, [], ap, append_assoc, append-nil, arith, codes, cond, drop, eqb, false, get_or, inl, inr, length, not, refl, rules, subst, suc, sym, take, true, zero, ℕ, ◌++◌, ◌+◌, ◌-◌, ◌<◌, ◌^◌, ◌∙◌, ◌∷◌, ◌≡◌, ◌≤◌}
pub use Rattle.std.proofs.lemmas.Bool.{and_parts, cond-false, cond-true, eqb-true, false≢true}
pub use Rattle.std.proofs.lemmas.Grind.{common_steps}
pub use Rattle.std.proofs.lemmas.Option.{same_Some}
pub use Rattle.std.proofs.lemmas.Slice.Eq.{bytes_eq-Decides}
pub use Rattle.std.specs.List.{AllByRecursion, list_all, list_any}
pub use Rattle.std.specs.Option.{option_copied, option_map}
pub use Rattle.std.specs.Prelude.{option_and_then, ◌&&◌}
pub use Rattle.std.specs.Str.{bytes_eq, str_to_ascii_lowercase}
pub use Rattle.sip_lex.specs.Bytes.{is_space, is_token, trim, trim_start}
pub use Rattle.sip_lex.specs.Cut.{Lacks, behind, cut, is}
pub use Rattle.sip_lex.specs.Outside.{pieces_outside_behind}
pub use Rattle.sip_lex.specs.Quoted.{IsInside, IsQuoted, quoted_at}
pub use Rattle.sip_lex.specs.Sheltered.{LacksOutside, cut_outside, end_place, place_after}
pub use Rattle.sip_lex.specs.declared.sheltered.ShelterState.{ShelterState}
pub use Rattle.sip_lex.specs.declared.sheltered.ShelterState.TheVariants.{Plain, Quoted, Escaped}
pub use Rattle.sip_lex.specs.declared.sheltered.Shelter.TheVariants.{Quotes}
pub use Rattle.sip_lex.specs.Texts.{pieces_text}
pub use Rattle.sip_digest.specs.AuthParam.{AuthParam, HasNoElement, IsAuthValue, IsElement, IsListed, unescaped}
pub use Rattle.sip_digest.specs.Credentials.{Credentials, IsOfRealm, Named, credentials_in, credentials_of, first_named, named_in}
pub use Rattle.sip_digest.specs.inner.Reading.{behind_scheme, element_cut, first_or, followed, is_text, list_of_realm, param_of, read_element, read_elements, read_list, read_value, scheme_cut, whole_quoted, with_param}

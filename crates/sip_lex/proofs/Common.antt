-- The names that most proofs of this crate cite, passed on from one place. Declares nothing.
pub use Rattle.std.proofs.Common.{Bool, IfNone, IfSome, List, None, Option, Some, [], ap, arith, cond, drop, eqb, false, fold, get_or, inl, inr, length, not, refl, subst, suc, sym, take, true, ℕ, ◌&&◌, ◌++◌, ◌+◌, ◌-◌, ◌<◌, ◌^◌, ◌∙◌, ◌∷◌, ◌≡◌, ◌≤◌}
pub use Rattle.std.proofs.Common.{ltb, zero}
pub use Rattle.std.proofs.lemmas.Bool.{and_parts, cases_Bool, cond-false, cond-true, cond_both, eqb-false, eqb-true, cases_lt, eq-eqb, false_from_ne_true, false≢true, le-ltb, lt-ltb}
pub use Rattle.std.proofs.lemmas.List.{take-append-drop, take_rest, length-drop, take_all, take_at}
pub use Rattle.std.specs.Borrow.{Bor}
pub use Rattle.std.specs.List.{AllByRecursion, flat_map, onto_first, list_all, position, position_or_len, suffix_len}
pub use Rattle.std.proofs.lemmas.Grind.{common_steps}
pub use Rattle.memchr.specs.Find.{is_byte3}
pub use Rattle.sip_lex.specs.Bytes.{is_space, trim_start}
pub use Rattle.sip_lex.specs.Cut.{Lacks, behind, cut, is}
pub use Rattle.sip_lex.specs.Line.{seen_line}
pub use Rattle.sip_lex.specs.Number.{number, with_digit}
pub use Rattle.sip_lex.specs.Quoted.{quoted_len}
pub use Rattle.sip_lex.specs.Sheltered.{LacksOutside, cut_outside, is_plain, place_after}
pub use Rattle.sip_lex.specs.declared.sheltered.ShelterState.{ShelterState}
pub use Rattle.sip_lex.specs.declared.sheltered.ShelterState.TheVariants.{Angled, Plain, Quoted}
pub use Rattle.sip_lex.specs.declared.sheltered.Shelter.{Shelter}
pub use Rattle.sip_lex.specs.inner.Number.{below}
pub use Rattle.sip_lex.specs.inner.Sheltered.{outside_len}

-- The names that most proofs of this crate cite, passed on from one place. Declares nothing.
pub use Rattle.std.proofs.Common.{Bool, List, None, Option, Some, [], ap, append_assoc, arith, bytes_eq, codes, cond, false, length, nat_le, option_and_then, refl, subst, sym, true, ℕ, ◌++◌, ◌<◌, ◌∙◌, ◌∷◌, ◌≡◌, ◌≤◌, suc, ◌+◌}
pub use Rattle.std.proofs.lemmas.Bool.{false_from_ne_true, leb-true, le-leb}
pub use Rattle.std.proofs.lemmas.List.{length-append}
pub use Rattle.std.proofs.lemmas.Option.{cond_some, same_Some}
pub use Rattle.std.proofs.lemmas.Slice.Eq.{bytes_eq-Decides}
pub use Rattle.std.specs.Fmt.{decimal}
pub use Rattle.std.specs.List.{flat_map, join_with_byte, slice_split, list_all}
pub use Rattle.std.specs.Option.{option_copied, option_map}
pub use Rattle.std.proofs.lemmas.Grind.{common_steps}
pub use Rattle.std.specs.Prelude.{All, IfSome, nat_lt, ◌&&◌}
pub use Rattle.sip_lex.proofs.laws.Cuts.{cut_again, cut_joins}
pub use Rattle.sip_lex.proofs.laws.Numbers.{decimal_lacks, number_read, number_spelled}
pub use Rattle.sip_lex.specs.Cut.{Lacks, cut, is}
pub use Rattle.sip_lex.specs.Number.{plain_number_within}
pub use Rattle.sip_lex.specs.Pieces.{pieces_behind}
pub use Rattle.fork_rank.specs.Preferred.{IsPreferredList}
pub use Rattle.fork_rank.specs.Pieces.{is_empty}
pub use Rattle.fork_rank.specs.PreferredText.{numbers_onto, preferred_if, read_preferred, is_preferred_list, rises}

-- The names that most proofs of this crate cite, passed on from one place. Declares nothing.
pub use Rattle.std.proofs.Common.{Bool, Err, IfSome, List, None, Ok, Option, Result, Some, [], ap, append_assoc, arith, codes, cond, drop, eqb, false, get_or, inl, inr, is_none, length, ltb, map, nat_le, not, option_map, refl, reverse}
pub use Rattle.std.proofs.Common.{slice_get, slice_set, subst, suc, sym, take, true, zero, ℕ, ◌%◌, ◌&&◌, ◌*◌, ◌++◌, ◌+◌, ◌-◌, ◌/◌, ◌<◌, ◌^◌, ◌||◌, ◌∙◌, ◌∷◌, ◌≡◌, ◌≢◌, ◌≤◌, rules}
pub use Rattle.std.proofs.lemmas.Bool.{and_from, and_parts, cases_Bool, cond-false, cond-true, cond_both, eqb-true, false_from_ne_true, false≢true, leb-true, or_cases}
pub use Rattle.std.proofs.lemmas.Fmt.{digits_decimal, length-decimal-le}
pub use Rattle.std.proofs.lemmas.List.{append-nil, drop_all, drop_at, length-append, length-set, reverse-append, reverse-reverse, take-append-drop, take_all, take_at}
pub use Rattle.std.proofs.lemmas.List.Folds.{list_all-append}
pub use Rattle.std.proofs.lemmas.Slice.Eq.{bytes_eq-Decides}
pub use Rattle.std.specs.Borrow.{Bor}
pub use Rattle.std.specs.Char.{is_ascii_digit, to_ascii_lowercase}
pub use Rattle.std.specs.Fmt.{decimal}
pub use Rattle.std.specs.List.{AllByRecursion, flat_map, list_all, list_any, prefix_len, suffix_len}
pub use Rattle.std.specs.Option.{option_copied}
pub use Rattle.std.specs.Str.{bytes_eq, str_to_ascii_lowercase}
pub use Rattle.std.proofs.lemmas.Grind.{common_steps}
pub use Rattle.sip_lex.proofs.laws.Cuts.{cut_again, cut_joins}
pub use Rattle.sip_lex.proofs.laws.Numbers.{number_read, own}
pub use Rattle.sip_lex.specs.Bytes.{is_space, is_token, is_token_byte, trim, trim_end, trim_start}
pub use Rattle.sip_lex.specs.Cut.{Lacks, behind, cut, is}
pub use Rattle.sip_lex.specs.Hex.{hex_digit}
pub use Rattle.sip_branch.specs.BranchText.{IsBranch, branch_text, cookie}
pub use Rattle.sip_lex.specs.HexPair.{hex_pair, hex_text}
pub use Rattle.sip_branch.specs.declared.branch.BranchName.{BranchName}
pub use Rattle.sip_branch.specs.inner.BranchParts.{BranchParts, branch_parts, with_key}

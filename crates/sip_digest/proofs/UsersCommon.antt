-- The names that most proofs of this crate cite, passed on from one place. Declares nothing.
pub use Rattle.std.proofs.Common.{Bool, Err, List, None, Ok, Option, Result, Some, [], ap, append-nil, append_assoc, arith, codes, cond, false, is_some, length, not, refl, subst, sym, true, ℕ, ◌++◌, ◌+◌, ◌<◌, ◌≤◌}
pub use Rattle.std.proofs.Common.{◌∙◌, ◌∷◌, ◌≡◌, ◌≢◌, option_and_then}
pub use Rattle.std.proofs.lemmas.Bool.{and_from, and_parts, cond-false, cond-true, eqb-false, eqb-true, cond_both}
pub use Rattle.std.proofs.lemmas.Grind.{common_steps}
pub use Rattle.std.proofs.lemmas.Option.{cond_some, same_Some}
pub use Rattle.std.proofs.lemmas.Slice.Eq.{bytes_eq-Decides}
pub use Rattle.std.specs.List.{AllByRecursion, list_all, list_any, slice_split}
pub use Rattle.std.specs.Option.{option_copied, option_map}
pub use Rattle.std.specs.Prelude.{◌&&◌, ◌||◌}
pub use Rattle.std.specs.Str.{bytes_eq}
pub use Rattle.sip_lex.specs.Cut.{Lacks, behind, cut, is}
pub use Rattle.sip_lex.proofs.laws.Cuts.{Lacks-append, Lacks-pass, cut_again, cut_joins}
pub use Rattle.sip_digest.specs.declared.algorithm.Algorithms.{Algorithms}
pub use Rattle.sip_digest.specs.declared.secrets.Secrets.{Secrets}
pub use Rattle.sip_digest.specs.User.{IsUser, User, begins_with_hash, digest_text, has_needed, is_digest, is_lower_hexadecimal, is_name, is_name_byte, is_named, secrets_named, user_text}
pub use Rattle.sip_digest.specs.Users.{AreApartFrom, AreLines, Comment, IsLine, Line, UserLine, is_comment, is_empty, is_no_lf, line_text, text_of, users_of}
pub use Rattle.sip_digest.specs.inner.UsersReading.{digests_cut, finished, read_digest, read_from, read_line, read_secrets, read_user, secrets_of, user_cut, user_if, user_in, with_line, with_text, with_user}

-- The names that most proofs of this crate cite, passed on from one place. Declares nothing.
pub use Rattle.std.proofs.Common.{Bool, Err, List, None, Ok, Option, Result, Some, [], ap, append-nil, append_assoc, arith, codes, cond, false, is_some, length, not, option_and_then, refl, subst, sym, true, ℕ, ◌++◌, ◌+◌, ◌<◌}
pub use Rattle.std.proofs.Common.{◌∙◌, ◌∷◌, ◌≡◌, ◌≤◌}
pub use Rattle.std.proofs.lemmas.Bool.{and_from, and_parts, eq-eqb, eqb-true}
pub use Rattle.std.proofs.lemmas.Option.{cond_some, same_Some}
pub use Rattle.std.proofs.lemmas.Slice.Eq.{bytes_eq-Decides}
pub use Rattle.std.specs.Fmt.{decimal}
pub use Rattle.std.specs.List.{AllByRecursion, list_all, list_any, slice_split}
pub use Rattle.std.specs.Option.{option_map}
pub use Rattle.std.specs.Prelude.{bytes_eq, ◌==◌, ◌&&◌, ◌||◌, ◌%◌}
pub use Rattle.sip_lex.specs.Cut.{Lacks, behind, cut, is}
pub use Rattle.sip_lex.specs.Number.{plain_number_within}
pub use Rattle.sip_lex.proofs.laws.Cuts.{Lacks-append, Lacks-pass, cut_again, cut_joins, cut_lacks}
pub use Rattle.sip_lex.proofs.laws.Numbers.{decimal_lacks, number_read, number_spelled}
pub use Rattle.fork_rank.specs.Field.{most_q, number_before, number_from}
pub use Rattle.fork_rank.proofs.laws.Field.{found_map, found_one, found_then, number_before_found, number_before_read, number_from_found, number_from_read}
pub use Rattle.sip_digest.specs.Algorithm.{algorithms_named}
pub use Rattle.sip_digest.specs.declared.algorithm.Algorithms.{Algorithms}
pub use Rattle.service_config.specs.Kind.{is_from_domain, is_whole, kind_of, may_follow, place_of}
pub use Rattle.service_config.specs.Line.{AreExpirations, CommentLine, ExpiresLine, GatewayLine, HasParts, IsLine, IsLocationLine, IsRing, IsRingIfAny, Line, LocationLine, RealmLine, RingLine, SetupLine, LargeLine, StrangersLine, TrustLine, algorithms_text}
pub use Rattle.service_config.specs.Line.{are_expirations, expirations_text, is_location, is_no_lf, is_realm, is_realm_byte, line_text, most_expiration, most_ring, says_nothing}
pub use Rattle.service_config.specs.Net.{IsNet, address_number, block, net_text}
pub use Rattle.service_config.specs.declared.expirations.Expirations.{Expirations}
pub use Rattle.service_config.specs.declared.net.Net.{Net}

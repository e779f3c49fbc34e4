-- The names that most proofs of this crate cite, passed on from one place. Declares nothing.
pub use Rattle.std.proofs.Common.{Bool, Err, List, None, Ok, Option, Result, Some, [], ap, append-nil, append_assoc, arith, codes, cond, false, inl, inr, length, map, not, option_and_then, refl, subst, sym, true, ℕ, ◌++◌, ◌+◌, ◌<◌}
pub use Rattle.std.proofs.Common.{◌∙◌, ◌∷◌, ◌≡◌, ◌≤◌}
pub use Rattle.std.proofs.lemmas.Bool.{and_from, and_parts}
pub use Rattle.std.proofs.lemmas.Option.{cond_some, same_Some}
pub use Rattle.std.proofs.lemmas.Slice.Eq.{bytes_eq-Decides}
pub use Rattle.std.specs.Fmt.{decimal}
pub use Rattle.std.specs.List.{AllByRecursion, list_any, slice_split}
pub use Rattle.std.specs.Option.{option_map}
pub use Rattle.fork_model.specs.Table.{most_targets}
pub use Rattle.proxy_config.specs.Configuration.{lines_of}
pub use Rattle.proxy_config.specs.Line.{DepthLine, DomainLine, InstanceLine, IsOwn, Line, LocationLine, OwnLine, PreferLine, is_user, line_text, most_instance, most_port, own_text}
pub use Rattle.proxy_config.specs.ReadView.{GivesSetup}
pub use Rattle.proxy_config.specs.Setup.{KeepsFrom, Location, MayFollow, Setup, is_reached_by, is_same, locations_of, next_hop}
pub use Rattle.proxy_config.specs.Line.{IsLine}
pub use Rattle.proxy_config.specs.LineReading.{fourth, location_cut, location_of, octet_before, octet_cut, own_at, own_cut, read_line, read_location, read_octets, read_own, second, third}
pub use Rattle.proxy_config.specs.inner.Reading.{Draft, drafted, drafted_line, finished_draft, is_whole, no_draft, read_from}
pub use Rattle.fork_rank.proofs.laws.Field.{found_map, found_then}
pub use Rattle.fork_rank.proofs.laws.Lines.{all_append}
pub use Rattle.fork_rank.proofs.laws.Preferred.{preferred_found}
pub use Rattle.fork_rank.specs.Field.{most_q, number_before}
pub use Rattle.sip_lex.proofs.laws.Cuts.{Lacks-pass}
pub use Rattle.sip_lex.specs.Cut.{Lacks, is}
pub use Rattle.sip_uri.specs.Host.{is_host}
pub use Rattle.sip_via.specs.Address.{address_text}
pub use Rattle.sip_via.specs.declared.own.Own.{Own}

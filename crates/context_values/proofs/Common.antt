-- The names that most proofs of this crate cite, passed on from one place. Declares nothing.
pub use Rattle.std.proofs.Common.{All, Bool, List, None, Option, Some, [], add-one, ap, append_assoc, arith, cond, eqb-true, false, get_or, inl, inr, length, map, nat_eq}
pub use Rattle.std.proofs.Common.{refl, rules, slice_get, subst, suc, sym, take, true, vec_capacity, vec_len, zero, ℕ, ◌++◌, ◌+◌, ◌<◌, ◌==◌, ◌||◌, ◌∙◌, ◌∷◌, ◌≡◌, ◌≤◌}
pub use Rattle.std.proofs.lemmas.List.{append-nil, take_more}
pub use Rattle.std.proofs.lemmas.List.Elements.{filter_map-append}
pub use Rattle.std.proofs.lemmas.Option.{slice_get_past}
pub use Rattle.std.specs.Cmp.Lexicographic.{pointwise}
pub use Rattle.std.specs.List.{AllByRecursion, filter_map, insert, list_any}
pub use Rattle.std.specs.Option.{option_to_list}
pub use Rattle.std.proofs.lemmas.Grind.{common_steps}
pub use Rattle.fork_model.specs.Groups.{falling, groups_of, in_group, is_value, numbered_from, numbers_below, places_of}
pub use Rattle.fork_model.specs.History.{Target}
pub use Rattle.fork_model.specs.Range.{IsTargetInRange}
pub use Rattle.fork_model.specs.Table.{Challenge, Offer, most_targets}
pub use Rattle.fork_rank.specs.Grouping.{lists_of}
pub use Rattle.context_values.specs.inner.ByKey.{IsByKey, Parted, found_at, is_before, key_at}
pub use Rattle.context_values.specs.RowExtras.{RowExtras, contact_qs, q_of_pair, row_extras_at, target_extras, with_row_extras}

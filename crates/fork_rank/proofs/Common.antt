-- The names that most proofs of this crate cite, passed on from one place. Declares nothing.
pub use Rattle.std.proofs.Common.{Bool, List, Some, [], ap, arith, cond, false, filter, get_or, inl, inr, length, map, refl, rules, subst, suc, sym, take, true, zero, ℕ, ◌++◌, ◌+◌, ◌-◌, ◌<◌, ◌∙◌, ◌∷◌, ◌≡◌, ◌≢◌, ◌≤◌, ◌⊎◌}
pub use Rattle.std.proofs.lemmas.Grind.{common_steps}
pub use Rattle.std.specs.Prelude.{Contains, IsTrue, slice_get, slice_index, ◌==◌, ◌↔◌}
pub use Rattle.fork_model.specs.Groups.{falling, is_value, numbers_below, places_of, with_q}
pub use Rattle.fork_rank.specs.Grouping.{lists_of}

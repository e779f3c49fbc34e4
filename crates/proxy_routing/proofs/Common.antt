-- The names that most proofs of this crate cite, passed on from one place. Declares nothing.
pub use Rattle.std.proofs.Common.{Bool, Err, List, Ok, Option, Result, Some, ap, arith, codes, false, refl, subst, suc, sym, take, true, zero, ℕ, ◌&&◌, ◌∙◌, ◌≡◌}
pub use Rattle.std.specs.List.{list_all}
pub use Rattle.proxy_routing.specs.Admission.{is_at_its_end, is_spent, is_well_formed, target_uri}
pub use Rattle.proxy_routing.specs.Targets.{targets_of}
pub use Rattle.sip_route.specs.Hops.{MayPass, hops_name}
pub use Rattle.sip_route.specs.declared.hops.MaxForwards.{MaxForwards}
pub use Rattle.sip_text.specs.Text.{MessageText}
pub use Rattle.sip_via.specs.TopVia.{top_value}
pub use Rattle.sip_via.specs.ViaParts.{via_of}
pub use Rattle.sip_via.specs.declared.own.Own.{Own}

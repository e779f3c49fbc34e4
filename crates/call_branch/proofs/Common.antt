-- The names that most proofs of this crate cite, passed on from one place. Declares nothing.
pub use Rattle.std.proofs.Common.{List, None, Option, Some, [], ap, arith, length, map, refl, slice_get}
pub use Rattle.std.proofs.Common.{slice_set, suc, sym, zero, ℕ, ◌++◌, ◌+◌, ◌<◌, ◌∙◌, ◌∷◌, ◌≡◌}
pub use Rattle.fork_model.specs.Table.{Row}
pub use Rattle.call_model.specs.Call.{found, with_branch}
pub use Rattle.call_model.specs.OpenedRequest.{OpenedRequest, branch_at}
pub use Rattle.call_model.specs.Branch.{Branch}
pub use Rattle.call_model.specs.Posting.{no_branch}
pub use Rattle.call_branch.specs.BranchInside.{changed_branch, no_branches}
pub use Rattle.sip_build.specs.Forwarding.{forwarded}
pub use Rattle.sip_text.specs.Text.{spelling}
pub use Rattle.sip_uri.specs.Uri.{Uri}
pub use Rattle.sip_via.specs.OwnVia.{over}
pub use Rattle.sip_branch.specs.declared.branch.BranchName.{BranchName}
pub use Rattle.sip_via.specs.declared.own.Own.{Own}

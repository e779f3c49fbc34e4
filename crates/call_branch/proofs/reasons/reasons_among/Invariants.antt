use Rattle.std.proofs.Common.{◌≡◌, ◌++◌}
use Rattle.std.specs.List.{flat_map}
use Rattle.sip_text.specs.Seen.{views}
use Rattle.call_branch.specs.inner.Reasons.{reason_in}
use Rattle.call_branch.proofs.reasons.reasons_among.Given as goal

abbrev pub invariant-loop-header : goal.invariant-loop-header
invariant-loop-header g l = l.lines.items ++ flat_map reason_in (views l.header-iterator) ≡ flat_map reason_in (views l.headers)

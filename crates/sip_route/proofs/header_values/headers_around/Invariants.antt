use Rattle.std.proofs.Common.{◌≡◌, ◌≤◌, length}
use Rattle.sip_text.specs.Seen.{views}
use Rattle.sip_route.specs.Lines.{lines_among}
use Rattle.sip_route.proofs.header_values.headers_around.Given as goal

abbrev pub invariant-loop-header : goal.invariant-loop-header
invariant-loop-header l = record {
  same : lines_among l.name (views l.rest) ≡ lines_among l.name (views l.headers);
  shorter : length (views l.rest) ≤ length (views l.headers);
}

abbrev pub decreases-loop-header : goal.decreases-loop-header
decreases-loop-header l = length (views l.rest)

use Rattle.std.proofs.Common.{◌≡◌, ◌≤◌, ◌++◌, ◌↔◌, length, slice_range}
use Rattle.std.specs.List.{flat_map}
use Rattle.sip_text.specs.inner.Within.{AreLinesWithin}
use Rattle.sip_text.specs.Seen.{headers_in}
use Rattle.sip_text.specs.Text.{header_text}
use Rattle.sip_text.specs.Written.{AreWritten}
use Rattle.sip_text.proofs.written.lines_end.Given as goal

abbrev pub invariant-loop-rest : goal.invariant-loop-rest
invariant-loop-rest l = record {
  ordered : l.at ≤ l.end;
  end_within : l.end ≤ length l.text;
  within : AreLinesWithin (length l.text) l.rest;
  spelled : flat_map header_text (headers_in l.text l.lines) ≡ slice_range l.text l.at l.end ++ flat_map header_text (headers_in l.text l.rest);
  written : AreWritten l.text l.at l.lines ↔ AreWritten l.text l.end l.rest;
}

abbrev pub decreases-loop-rest : goal.decreases-loop-rest
decreases-loop-rest l = length l.rest

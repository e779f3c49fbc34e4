-- The line that a line of the program stands for.
use Rattle.fork_listing.specs.declared.line.ListingLine.{ListingLine}
use Rattle.fork_listing.specs.declared.line.ListingLine.TheVariants as line
use Rattle.fork_listing.specs.Line as spec

abbrev pub line_of : ListingLine → spec.Line
line_of (line.Fork version count) = spec.ForkLine version count
line_of (line.Prefer preferred) = spec.PreferLine preferred
line_of (line.Depth depth) = spec.DepthLine depth.steps
line_of (line.Target target) = spec.TargetLine target
line_of (line.Rank ranked) = spec.RankLine ranked
line_of (line.Final last) = spec.FinalLine last

-- The line that a line of the program stands for.
use Rattle.proxy_config.specs.declared.line.SetupLine.{SetupLine}
use Rattle.proxy_config.specs.declared.line.SetupLine.TheVariants as line
use Rattle.proxy_config.specs.Line as spec

abbrev pub line_of : SetupLine → spec.Line
line_of (line.Own own) = spec.OwnLine own
line_of (line.Instance instance) = spec.InstanceLine instance
line_of (line.Domain host) = spec.DomainLine host.now
line_of (line.Prefer preferred) = spec.PreferLine preferred
line_of (line.Depth depth) = spec.DepthLine depth.steps
line_of (line.Location user q uri) = spec.LocationLine user.now q uri.now

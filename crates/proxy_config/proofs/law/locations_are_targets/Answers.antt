use Rattle.proxy_config.proofs.Targets.{locations_are_targets}
use Rattle.proxy_config.proofs.law.locations_are_targets.Goals as goal

pub returns : goal.returns
returns c = locations_are_targets

use Rattle.std.proofs.Common.{◌≡◌, None, fold, take}
use Rattle.proxy_config.specs.Ways.{later_way}
use Rattle.proxy_config.proofs.way.last_way.Given as goal

abbrev pub invariant-loop-way : goal.invariant-loop-way
invariant-loop-way g l = l.found ≡ fold (later_way l.key) None (take l.way-index l.ways)

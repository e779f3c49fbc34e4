use Rattle.std.proofs.Common.{◌≡◌, ◌++◌, take}
use Rattle.std.specs.List.{filter_map}
use Rattle.proxy_service.specs.Noting.{noted_at}
use Rattle.proxy_service.proofs.notes.add_notes.Given as goal

abbrev pub invariant-loop-posted : goal.invariant-loop-posted
invariant-loop-posted g l = l.notes.items ≡ l.initial.notes.items ++ filter_map (noted_at l.at) (take l.posted-index l.events)

use Rattle.std.proofs.Common.{◌≡◌, fold, length, map}
use Rattle.proxy_config.specs.Moment.{as_requested, with_next}
use Rattle.proxy_config.specs.Setup.{KeepsRulesWith}
use Rattle.proxy_config.proofs.moment.locations_of_user.Given as goal

-- those that are left lead on to all, and each may follow those before it
abbrev pub invariant-loop-location : goal.invariant-loop-location
invariant-loop-location g l =
    (fold (with_next l.streams) l.listed (map as_requested l.locations) ≡ fold (with_next l.streams) l.initial.listed (map as_requested l.initial.locations)) × KeepsRulesWith l.streams l.listed

abbrev pub decreases-loop-location : goal.decreases-loop-location
decreases-loop-location g l = length l.locations

use Rattle.service_config.proofs.Common.{◌≡◌, ◌≤◌, ◌+◌, length, slice_split, is}
use Rattle.service_config.specs.Configuration.{no_draft}
use Rattle.service_config.specs.inner.Reading.{IsSound, read_from}
use Rattle.service_config.proofs.draft.read_all.Given as goal

-- reading on from here gives what the whole gives
abbrev pub invariant-loop-after : goal.invariant-loop-after
invariant-loop-after g l =
    (read_from l.number l.draft (slice_split (is 10) l.rest) ≡ read_from 1 (no_draft l.instance l.streams) (slice_split (is 10) l.text))
    × IsSound l.draft
    × (l.number + length l.rest ≤ 1 + length l.text)

abbrev pub decreases-loop-after : goal.decreases-loop-after
decreases-loop-after g l = length l.rest

use Rattle.std.proofs.Common.{◌≡◌, ◌≤◌, ◌<◌, ◌+◌, length}
use Rattle.std.specs.List.{slice_split}
use Rattle.sip_lex.specs.Cut.{is}
use Rattle.fork_engine.specs.inner.Reading.{read_from, no_draft}
use Rattle.fork_engine.specs.inner.Workers.{event_count}
use Rattle.fork_engine.proofs.scripts.Workers.read_lines.Given as goal

-- reading on from here gives what the whole gives, and no line has more than one event
abbrev pub invariant-loop-after : goal.invariant-loop-after
invariant-loop-after g l =
    (read_from l.number l.draft (slice_split (is 10) l.rest) ≡ read_from 1 no_draft (slice_split (is 10) l.text))
    × (l.number + length l.rest ≤ 1 + length l.text)
    × (event_count l.draft < l.number)

abbrev pub decreases-loop-after : goal.decreases-loop-after
decreases-loop-after g l = length l.rest

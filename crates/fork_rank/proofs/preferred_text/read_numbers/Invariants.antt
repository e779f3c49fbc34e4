use Rattle.fork_rank.proofs.TextCommon.{◌≡◌, [], length, slice_split, is, numbers_onto}
use Rattle.fork_rank.proofs.preferred_text.read_numbers.Given as goal

-- reading on from here gives what the whole gives
abbrev pub invariant-loop-number : goal.invariant-loop-number
invariant-loop-number l =
    numbers_onto l.numbers.items (slice_split (is 44) l.rest) ≡ numbers_onto [] (slice_split (is 44) l.text)

abbrev pub decreases-loop-number : goal.decreases-loop-number
decreases-loop-number l = length l.rest

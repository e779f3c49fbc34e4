use Rattle.fork_listing.proofs.Common.{◌≡◌, ◌++◌, take, ranks_text}
use Rattle.fork_listing.proofs.print.append_ranks.Given as goal

abbrev pub invariant-loop-ranked : goal.invariant-loop-ranked
invariant-loop-ranked g l = l.text.items ≡ l.initial.text.items ++ ranks_text (take l.ranked-index l.ranks)

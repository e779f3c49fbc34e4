-- The score of the row that a line tells of.
use Rattle.fork_listing.proofs.Common.{◌≡◌, End, ListedTarget, row_of, score_in, arith}
use Rattle.fork_model.proofs.laws.Choosing.{row_score}

-- the score of the row that a line tells of
score_same : (end : End) (target : ListedTarget) → target.end ≡ end → row_score (row_of target) ≡ score_in end
score_same end target e = grind arith

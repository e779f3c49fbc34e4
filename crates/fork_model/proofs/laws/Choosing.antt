-- How the first stored answer follows from those of the rows before and the last row.
use Rattle.fork_model.proofs.Common.{[], Option, option_map, Row, stored_of, Score, score_of, NoneStored}

-- the score of a row's stored answer
abbrev pub row_score : Row → Option Score
row_score row = option_map score_of (stored_of row.state)

pub none_stored_empty : NoneStored []
none_stored_empty m s e = absurd cc

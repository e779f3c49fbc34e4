-- The prover finds these answers by itself: they stand here so that it need not search twice where an edit strikes the function.
use Rattle.std.proofs.Common.{rules}
use Rattle.sip_lex.proofs.pieces.append_pieces.Goals as goal

pub returns-clause-ok : goal.returns-clause-ok
returns-clause-ok c = search rules

use Rattle.fork_context.proofs.Common.{ap, choice_of, arith}
use Rattle.fork_context.proofs.FirstRows.{first_row, row_of}
use Rattle.fork_context.proofs.context.Context.is_first.Goals as goal

pub returns-in-Stored : goal.returns-in-Stored
returns-in-Stored g c =
    first_row _ c.args.self.now c.self.view_is c.self.invariant.sound (choice_of c.choice.result.0) c.choice.ensures.choice c.in-Stored.first c.args.n
    (ap (λ x. row_of (choice_of x)) c.in-Stored.is)

pub returns-in-Only503 : goal.returns-in-Only503
returns-in-Only503 g c =
    first_row _ c.args.self.now c.self.view_is c.self.invariant.sound (choice_of c.choice.result.0) c.choice.ensures.choice c.in-Only503.first c.args.n
    (ap (λ x. row_of (choice_of x)) c.in-Only503.is)

pub returns-in-NoAnswer408 : goal.returns-in-NoAnswer408
returns-in-NoAnswer408 g c = grind arith

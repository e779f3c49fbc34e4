use Rattle.fork_context.proofs.Common.{rules, ◌∙◌, ap, slice_get, option_and_then, Core}
use Rattle.fork_context.specs.LeftView.{left_of}
use Rattle.fork_context.proofs.AnswersCame.{shown_came}
use Rattle.fork_context.proofs.context.Context.left.Goals as goal

pub returns-clause-value : goal.returns-clause-value
returns-clause-value g c = search rules

pub returns-clause-came : goal.returns-clause-came
returns-clause-came g c led =
    shown_came c.stored_answers_came.ensures.always c.stored_answers_came.ensures.by_event c.args.self.now led c.args.n _
    (c.left.ensures ∙ ap (λ (core : Core). option_and_then left_of (slice_get core.table.rows c.args.n)) c.self.view_is)

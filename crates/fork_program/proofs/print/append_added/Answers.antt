use Rattle.fork_program.proofs.Common.{◌≡◌, ◌∙◌, ◌++◌, List, Some, ap, Challenge, challenge_list, common_steps, arith}
use Rattle.fork_program.proofs.print.append_added.Goals as goal

pub returns : goal.returns
returns g c choice chosen =
    let all : List Challenge = challenge_list c.args.context.now.table.rows choice in
    let added : c.deref.result.now ≡ all =
    c.deref.ensures.value ∙ c.in_ok-challenges.ensures.added (Some choice) chosen ∙ ap (λ (front : List Challenge). front ++ all) c.new-added.ensures.items in
    grind (arith, common_steps)

use Rattle.fork_program.proofs.Common.{arith, ◌≡◌, ◌≤◌, ◌+◌, length, most_text, common_steps}
use Rattle.fork_program.proofs.InputSteps.{consumed_more, whole_at_end, whole_at_most, length_more}
use Rattle.fork_program.proofs.input.read_input.Goals as goal

pub returns-then-room-eq0-clause-whole : goal.returns-then-room-eq0-clause-whole
returns-then-room-eq0-clause-whole g c =
    let full : length c.loop.text.items ≡ most_text + 1 = omega arith in
    whole_at_most _ _ c.loop.text.items (most_text + 1) c.loop.invariant.2 full

pub returns-then-branch-clause-whole : goal.returns-then-branch-clause-whole
returns-then-branch-clause-whole g c =
    let more = c.in_ok-read_more.ensures.more in
    let longer = length_more _ _ _ _ _ _ more in
    let few : length c.read_more.new.text.items ≤ most_text + 1 = grind (arith, common_steps, longer) in
    whole_at_end _ _ c.read_more.new.text.items (most_text + 1) (consumed_more _ _ _ _ _ _ _ c.loop.invariant.2 more) (more.at_end c.if-branch.true) few

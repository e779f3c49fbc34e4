use Rattle.fork_context.proofs.Common.{◌≡◌, ◌≢◌, ◌∙◌, sym, rules, IsFirst, common_steps, arith}
use Rattle.fork_tree.specs.Tree.{score_of_ref}
use Rattle.fork_context.proofs.StoredRows.{first_with_extras, none_with_extras, status_of_first}
use Rattle.fork_context.proofs.fork.Fork.choice.Goals as goal

pub returns-in-None-clause-choice : goal.returns-in-None-clause-choice
returns-in-None-clause-choice g c = grind (arith, common_steps, none_with_extras)

pub returns-then-code-eq503-clause-choice : goal.returns-then-code-eq503-clause-choice
returns-then-code-eq503-clause-choice g c =
    let first : IsFirst c.self.inside.tree.rules c.self.inside.tree.rows c.in-Some.first.no (score_of_ref c.in-Some.first) = c.in-Some.ensures in
    let is : c.in-Some.first.status ≡ 503 = search rules in
    rw (← c.self.view_is) (score_of_ref c.in-Some.first, first_with_extras c.self.inside.tree.rules c.self.inside.tree.rows c.self.inside.extras c.in-Some.first.no (score_of_ref c.in-Some.first) first, is)

pub returns-else-code-eq503-clause-choice : goal.returns-else-code-eq503-clause-choice
returns-else-code-eq503-clause-choice g c =
    let first : IsFirst c.self.inside.tree.rules c.self.inside.tree.rows c.in-Some.first.no (score_of_ref c.in-Some.first) = c.in-Some.ensures in
    let differs : c.in-Some.first.status ≢ 503 = search rules in
    rw (← c.self.view_is) (score_of_ref c.in-Some.first, first_with_extras c.self.inside.tree.rules c.self.inside.tree.rows c.self.inside.extras c.in-Some.first.no (score_of_ref c.in-Some.first) first, differs)

pub returns-else-code-eq503-clause-status : goal.returns-else-code-eq503-clause-status
returns-else-code-eq503-clause-status g c =
    let first : IsFirst c.self.inside.tree.rules c.self.inside.tree.rows c.in-Some.first.no (score_of_ref c.in-Some.first) = c.in-Some.ensures in
    rw (← c.self.view_is) (c.code-code.ensures.value ∙ sym (status_of_first c.self.inside.tree.rules c.self.inside.tree.rows c.self.inside.extras c.in-Some.first.no (score_of_ref c.in-Some.first) first))

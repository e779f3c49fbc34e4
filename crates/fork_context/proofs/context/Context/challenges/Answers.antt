use Rattle.fork_context.proofs.Common.{refl, ◌≡◌, ◌∙◌, sym, ap, subst, [], List, AllByRecursion, append-nil, Challenge, choice_of, Core, IsSound, common_steps, arith}
use Rattle.fork_model.specs.Challenges.{challenge_list}
use Rattle.fork_context.specs.Came.{taken_events, CameByChallenge}
use Rattle.fork_context.proofs.AnswersCame.{challenges_came}
use Rattle.fork_context.proofs.ChallengeSteps.{chosen_once, due_now}
use Rattle.fork_context.proofs.context.Context.challenges.Goals as goal

pub returns-in_default-clause-came : goal.returns-in_default-clause-came
returns-in_default-clause-came g c led = ([], sym (append-nil _), tt)

pub returns-clause-added : goal.returns-clause-added
returns-clause-added g c =
    let Sound : Core → Type 0 = λ core. IsSound core.table core.taken in
    let core : Core = c.args.self.now in
    let sound : Sound core = subst Sound c.self.view_is c.self.invariant.sound in
    let same : c.self.inside.fork.rows ≡ core.table.rows = ap (λ (x : Core). x.table.rows) c.self.view_is in
    let due = due_now core.table.rows (c.in-Some.ensures.due.0 refl) in
    grind (arith, common_steps, chosen_once)

pub returns-clause-came : goal.returns-clause-came
returns-clause-came g c led =
    let core : Core = c.args.self.now in
    let choice = choice_of c.in-Some.choice in
    let same : c.in_ok-added.added.items ≡ challenge_list core.table.rows choice =
    c.in_ok-added.ensures ∙ ap (λ (x : Core). challenge_list x.table.rows choice) c.self.view_is in
    let AreCome : List Challenge → Type 0 = λ added. AllByRecursion (CameByChallenge (taken_events core led)) added in
    (c.in_ok-added.added.items, c.in_ok-append.ensures.items, subst AreCome (sym same) (challenges_came c.stored_answers_came.ensures.always c.stored_answers_came.ensures.by_event core led choice))

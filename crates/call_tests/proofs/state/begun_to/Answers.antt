use Rattle.call_tests.proofs.Begun.{begins_answers, begins_sound}
use Rattle.call_tests.proofs.state.begun_to.Goals as goal

pub returns-clause-sound : goal.returns-clause-sound
returns-clause-sound c =
    begins_sound c.calls_stay_sound.ensures.begun c.begin.result _ _ c.args.targets.items _ _ _ c.begin.ensures c.in-Ok.ensures.opened c.kind-kind.ensures

pub returns-clause-answers : goal.returns-clause-answers
returns-clause-answers c =
    begins_answers c.branches_keep_their_answers.ensures.begun c.begin.result _ _ c.args.targets.items _ _ _ c.begin.ensures c.in-Ok.ensures.opened c.kind-kind.ensures

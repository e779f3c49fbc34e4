use Rattle.std.proofs.Common.{subst, sym}
use Rattle.call_model.specs.Behind.{KeepsAnswers}
use Rattle.call_model.specs.Call.{Call}
use Rattle.call_model.specs.SeenStep.{pumped}
use Rattle.call_tests.proofs.Kept.{answer_step, sent_turn}
use Rattle.call_tests.proofs.branches.answered.Goals as goal

pub returns-in-Ok-clause-sound : goal.returns-in-Ok-clause-sound
returns-in-Ok-clause-sound c =
    let p = pumped c.in-Ok.step in
    c.calls_stay_sound.ensures.kept (sent_turn 0 p) c.args.state.now c.send_next_response.new.self c.requires.sound tt
    (answer_step c.args.state.now c.send_next_response.new.self 0 p c.in-Ok.ensures.ok)

pub returns-in-Ok-clause-answers : goal.returns-in-Ok-clause-answers
returns-in-Ok-clause-answers c =
    let p = pumped c.in-Ok.step in
    c.branches_keep_their_answers.ensures.kept (sent_turn 0 p) c.args.state.now c.send_next_response.new.self c.requires.sound c.requires.answers
    (answer_step c.args.state.now c.send_next_response.new.self 0 p c.in-Ok.ensures.ok)

pub returns-in-Err-clause-answers : goal.returns-in-Err-clause-answers
returns-in-Err-clause-answers c =
    let P : Call → Type 0 = λ x. KeepsAnswers x in
    subst P (sym c.in-Err.ensures.err) c.requires.answers

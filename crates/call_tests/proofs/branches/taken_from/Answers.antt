use Rattle.std.proofs.Common.{subst, sym}
use Rattle.call_model.specs.Behind.{KeepsAnswers}
use Rattle.call_model.specs.Call.{Call}
use Rattle.call_model.specs.SeenTaken.{seen_taken}
use Rattle.call_model.specs.Sound.{IsForward}
use Rattle.call_tests.proofs.Kept.{taken_turn}
use Rattle.call_tests.proofs.branches.taken_from.Goals as goal

pub returns-in-Ok-clause-sound : goal.returns-in-Ok-clause-sound
returns-in-Ok-clause-sound c =
    let forward : IsForward c.args.response = let a = c.has_second_via.ensures in let b = c.if-not-has_second_via.false in cc in
    c.calls_stay_sound.ensures.kept (taken_turn c.args.state.now c.args.n c.args.now c.args.response (seen_taken c.in-Ok.taken)) c.args.state.now c.respond.new.self
    c.requires.sound (c.is_message.ensures, forward) c.in-Ok.ensures.ok

pub returns-in-Ok-clause-answers : goal.returns-in-Ok-clause-answers
returns-in-Ok-clause-answers c =
    c.branches_keep_their_answers.ensures.kept (taken_turn c.args.state.now c.args.n c.args.now c.args.response (seen_taken c.in-Ok.taken)) c.args.state.now c.respond.new.self
    c.requires.sound c.requires.answers c.in-Ok.ensures.ok

pub returns-in-Err-clause-answers : goal.returns-in-Err-clause-answers
returns-in-Err-clause-answers c =
    let P : Call → Type 0 = λ x. KeepsAnswers x in
    subst P (sym c.in-Err.ensures.err) c.requires.answers

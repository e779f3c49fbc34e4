use Rattle.std.proofs.Common.{◌≡◌, subst, sym, true, false}
use Rattle.fork_model.specs.Table.{is_trying}
use Rattle.call_model.specs.Behind.{KeepsAnswers}
use Rattle.call_model.specs.Call.{Call, is_sent, row_passes}
use Rattle.call_model.specs.Pump as pump
use Rattle.call_model.specs.SeenDatagram.{seen}
use Rattle.call_tests.proofs.Kept.{request_step, sent_turn}
use Rattle.call_tests.proofs.branches.sent_to.Goals as goal

pub returns-in-Ok-clause-sound : goal.returns-in-Ok-clause-sound
returns-in-Ok-clause-sound c =
    let trying : row_passes is_trying c.args.state.now c.args.n ≡ true = let a = c.is_trying.ensures in let b = c.if-not-is_trying.false in cc in
    let unsent : is_sent c.args.state.now c.args.n ≡ false = let a = c.is_sent.ensures in let b = c.if-is_sent.false in cc in
    c.calls_stay_sound.ensures.kept (sent_turn 0 (pump.Send (seen c.in-Ok.sent))) c.args.state.now c.send_request.new.self c.requires.sound tt
    (request_step c.args.state.now c.send_request.new.self 0 c.args.n (seen c.in-Ok.sent) trying unsent c.in-Ok.ensures.ok)

pub returns-in-Ok-clause-answers : goal.returns-in-Ok-clause-answers
returns-in-Ok-clause-answers c =
    let trying : row_passes is_trying c.args.state.now c.args.n ≡ true = let a = c.is_trying.ensures in let b = c.if-not-is_trying.false in cc in
    let unsent : is_sent c.args.state.now c.args.n ≡ false = let a = c.is_sent.ensures in let b = c.if-is_sent.false in cc in
    c.branches_keep_their_answers.ensures.kept (sent_turn 0 (pump.Send (seen c.in-Ok.sent))) c.args.state.now c.send_request.new.self c.requires.sound c.requires.answers
    (request_step c.args.state.now c.send_request.new.self 0 c.args.n (seen c.in-Ok.sent) trying unsent c.in-Ok.ensures.ok)

pub returns-in-Err-clause-answers : goal.returns-in-Err-clause-answers
returns-in-Err-clause-answers c =
    let P : Call → Type 0 = λ x. KeepsAnswers x in
    subst P (sym c.in-Err.ensures.err) c.requires.answers

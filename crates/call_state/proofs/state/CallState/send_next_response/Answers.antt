use Rattle.call_state.proofs.Common.{subst, IsPaid, BuiltResponse}
use Rattle.call_model.specs.SeenStep.{pumped}
use Rattle.call_state.specs.declared.answers.BuiltResponse.TheVariants as built_response
use Rattle.call_state.proofs.Paying.{if_ok, paid_text}
use Rattle.call_state.proofs.state.CallState.send_next_response.Goals as goal

pub returns-in-Answer-clause-ok : goal.returns-in-Answer-clause-ok
returns-in-Answer-clause-ok g c =
    let P : BuiltResponse _ → Type 0 = λ p. IsPaid c.args.self.now c.args.self.now.server.owed p in
    let paid : IsPaid c.args.self.now c.args.self.now.server.owed (built_response.Answer c.in-Answer.status c.in-Answer.text) = subst P c.in-Answer.is c.in_ok-datagram.ensures in
    if_ok (λ step f. paid_text c.args.self.now c.send_answer.new.self c.args.now c.args.self.now.server.owed (built_response.Answer c.in-Answer.status c.in-Answer.text) (pumped step) tt paid (λ m t. f m t.0 t.1)) c.send_answer.result c.send_answer.ensures.ok

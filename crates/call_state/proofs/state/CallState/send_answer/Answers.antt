use Rattle.call_state.proofs.Common.{◌<◌, ◌∙◌, sym, subst, length, Call, closing_of}
use Rattle.call_state.proofs.Sends.{answer_sent}
use Rattle.call_state.proofs.state.CallState.send_answer.Goals as goal

pub dequeue-requires-2 : goal.dequeue-requires-2
dequeue-requires-2 g c =
    let P : Call → Type 0 = λ x. 0 < length x.server.owed in
    record { some = subst P (sym c.self.view_is) c.requires.some }

pub returns-clause-ok : goal.returns-clause-ok
returns-clause-ok g c = λ m status_is text_is.
    answer_sent c.self.inside.opened c.self.inside.book (closing_of c.self.inside.closing) c.self.inside.destinations.items c.self.inside.branches.items c.self.inside.served c.on_event-served.result.0 c.self.inside.owed.items c.dequeue-2.new.self.items
    c.self.inside.last.items c.args.text.items c.args.self.now m c.args.status c.args.now c.answer_event.result c.on_event-served.result.1 c.is_response.result c.caller-to.result c.in_ok-bytes.bytes.items
    c.self.view_is status_is c.answer_event.ensures c.on_event-served.ensures.after c.on_event-served.ensures.out c.is_response.ensures (let b = c.if-not-is_response.false in cc) c.caller-to.ensures
    (c.in_ok-bytes.ensures.items ∙ c.deref.ensures.value) text_is c.dequeue-2.ensures

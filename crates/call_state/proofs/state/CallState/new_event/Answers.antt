use Rattle.call_state.proofs.Common.{◌≡◌, map, subst, IfOk, Call, event_of, destination_of_contact, contacts_for, event_by}
use Rattle.call_state.proofs.state.CallState.new_event.Goals as goal

pub returns-clause-event : goal.returns-clause-event
returns-clause-event g c =
    let P : Call → Type 0 = λ x. IfOk c.of.result (λ new_event. event_of new_event.event ≡ event_by x.opened.tried c.args.n c.args.status c.args.message.now) in
    subst P c.self.view_is c.of.ensures.event

pub returns-clause-destinations : goal.returns-clause-destinations
returns-clause-destinations g c =
    let P : Call → Type 0 = λ x. IfOk c.of.result (λ new_event. new_event.destinations.items ≡ map (destination_of_contact x.opened) (contacts_for x.opened.tried c.args.status c.args.message.now)) in
    subst P c.self.view_is c.of.ensures.destinations

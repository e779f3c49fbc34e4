use Rattle.std.proofs.Common.{◌∙◌, refl}
use Rattle.call_caller.proofs.NewDestinations.{answers_with, event_gives, rings}
use Rattle.call_caller.proofs.response_event.ResponseEvent.of.Goals as goal

pub returns-in-Some-clause-gives : goal.returns-in-Some-clause-gives
returns-in-Some-clause-gives g c =
    let law = c.new_rows_are_contacts.ensures in
    event_gives law.each law.none c.args.opened.now c.args.opened.now.tried c.args.n c.args.status c.args.message.now _ c.in_ok-offered.offered.destinations.items
    (rings c.args.opened.now.tried c.args.n c.args.status c.in-Some.ring c.args.message.now c.in-Some.ensures.value (c.in-Some.ensures.valid.0 refl).1)
    c.in_ok-offered.ensures.destinations

pub returns-clause-event : goal.returns-clause-event
returns-clause-event g c =
    answers_with c.args.opened.now.tried c.args.n c.args.status c.args.message.now c.new.result (c.in-Some-of.ensures.valid.0 refl).0
    (c.new.ensures ∙ rw (c.in-Some-of.ensures.value, c.in_ok-offered.ensures.offers, c.in_ok-challenges.ensures) refl)

pub returns-clause-gives : goal.returns-clause-gives
returns-clause-gives g c =
    let law = c.new_rows_are_contacts.ensures in
    event_gives law.each law.none c.args.opened.now c.args.opened.now.tried c.args.n c.args.status c.args.message.now _ c.in_ok-offered.offered.destinations.items
    (answers_with c.args.opened.now.tried c.args.n c.args.status c.args.message.now c.new.result (c.in-Some-of.ensures.valid.0 refl).0
    (c.new.ensures ∙ rw (c.in-Some-of.ensures.value, c.in_ok-offered.ensures.offers, c.in_ok-challenges.ensures) refl))
    c.in_ok-offered.ensures.destinations

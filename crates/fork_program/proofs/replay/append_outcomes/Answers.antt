use Rattle.fork_program.proofs.Common.{◌≡◌, ◌∷◌, ◌++◌, ◌∙◌, [], List, map, ap, sym, append_assoc, Event, event_of}
use Rattle.fork_program.proofs.Outcomes.{adds_one}
use Rattle.fork_program.proofs.replay.append_outcomes.Goals as goal

pub loop-event-preserved : goal.loop-event-preserved
loop-event-preserved g c =
    let offered = c.loop-event.invariant.0 in
    let event = event_of c.in-Some.event in
    let rest = map event_of c.pop_front.new.self.items in
    let items : map event_of c.loop-event.events.items ≡ event ∷ rest = ap (map event_of) c.in-Some.ensures.items in (
      offered ++ event ∷ [],
      c.loop-event.invariant.1 ∙ ap (λ (events : List Event). offered ++ events) items ∙ sym (append_assoc offered (event ∷ []) rest),
      adds_one c.args.context.now c.loop-event.context c.append_outcome.new.context offered event _ _ _ c.loop-event.invariant.2 c.in_ok-append_outcome.ensures,
    )

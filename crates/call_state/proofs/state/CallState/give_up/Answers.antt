use Rattle.std.proofs.Common.{refl}
use Rattle.call_state.proofs.Actions.{given_up}
use Rattle.call_state.proofs.state.CallState.give_up.Goals as goal

pub end_branch-requires : goal.end_branch-requires
end_branch-requires g c = record { there = c.requires.there; plain = refl; fits = c.requires.cancelled }

pub returns-clause-ok : goal.returns-clause-ok
returns-clause-ok g c =
    given_up c.args.self.now c.end_branch.new.self c.args.n c.args.now c.part.result.now c.part.ensures c.on_event-client.result.0 c.on_event-client.ensures.after c.in_ok-end_branch.ensures.ok

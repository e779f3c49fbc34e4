use Rattle.call_state.proofs.Common.{◌≡◌, refl, subst, true, false, client_after, client_out, Branch, is_open, row_passes, is_request, is_timeout, seen}
use Rattle.sip_txn.specs.declared.event.TxEvent.TheVariants as event
use Rattle.call_state.proofs.Actions.{client_ticked_sent, client_ticked_silent, client_timed_out, same_branch}
use Rattle.call_state.proofs.Failing.{timeout_is_open}
use Rattle.call_state.proofs.state.CallState.tick_client.Goals as goal

pub end_branch-requires : goal.end_branch-requires
end_branch-requires g c =
    let e : is_timeout c.on_event-client.result.1.pass ≡ true = let a = c.is_timeout.ensures in let b = c.if-is_timeout.true in cc in
    let still : row_passes is_open c.args.self.now c.args.n ≡ true =
    timeout_is_open c.args.self.now c.args.n c.args.now c.part.result.now c.part.ensures c.on_event-client.result.1 c.requires.sound c.on_event-client.ensures.out e in
    record { there = c.requires.there; plain = refl; fits = still }

pub returns-then-is_timeout-clause-ok : goal.returns-then-is_timeout-clause-ok
returns-then-is_timeout-clause-ok g c =
    let e : is_timeout c.on_event-client.result.1.pass ≡ true = let a = c.is_timeout.ensures in let b = c.if-is_timeout.true in cc in
    client_timed_out c.args.self.now c.end_branch.new.self c.args.n c.args.now c.destination-destination.result.now c.part.result.now c.part.ensures c.destination-destination.ensures
    c.on_event-client.result.0 c.on_event-client.result.1 c.on_event-client.ensures.after c.on_event-client.ensures.out e c.in_ok-end_branch.ensures.ok

pub returns-then-not-is_request-clause-ok : goal.returns-then-not-is_request-clause-ok
returns-then-not-is_request-clause-ok g c =
    let e : is_timeout c.on_event-client.result.1.pass ≡ false = let a = c.is_timeout.ensures in let b = c.if-is_timeout.false in cc in
    let q : is_request c.on_event-client.result.1.send ≡ false = let a = c.is_request.ensures in let b = c.if-not-is_request.true in cc in
    client_ticked_silent c.args.self.now c.respond_branch.new.self c.args.n c.args.now c.destination-destination.result.now c.part.result.now c.part.ensures c.destination-destination.ensures
    c.on_event-client.result.0 c.on_event-client.result.1 c.on_event-client.ensures.after c.on_event-client.ensures.out e q c.respond_branch.ensures

pub returns-clause-ok : goal.returns-clause-ok
returns-clause-ok g c =
    let e : is_timeout c.on_event-client.result.1.pass ≡ false = let a = c.is_timeout.ensures in let b = c.if-is_timeout.false in cc in
    let q : is_request c.on_event-client.result.1.send ≡ true = let a = c.is_request.ensures in let b = c.if-not-is_request.false in cc in
    let t = c.in_ok-datagram.ensures in
    let A : Branch → Type 0 = λ x. c.on_event-client.result.0 ≡ client_after event.Tick c.args.now x.client in
    let O : Branch → Type 0 = λ x. c.on_event-client.result.1 ≡ client_out event.Tick c.args.now x.client in
    let same : c.part.result.now ≡ t.1 = same_branch _ c.part.result.now t.1 c.part.ensures t.3 in
    client_ticked_sent c.args.self.now c.respond_branch-2.new.self c.args.n c.args.now t.0 t.1 t.3 t.2
    c.on_event-client.result.0 c.on_event-client.result.1 (subst A same c.on_event-client.ensures.after) (subst O same c.on_event-client.ensures.out) (seen c.in_ok-datagram.datagram) e q t.4 c.respond_branch-2.ensures

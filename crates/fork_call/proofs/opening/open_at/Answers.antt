use Rattle.fork_call.proofs.OpeningCommon.{◌≡◌, ◌∙◌, [], true, List, Option, ap, ℕ, subst, sym, list_all, option_map, CandidateTarget, has_hop, IsBegun}
use Rattle.std.proofs.Common.{rules}
use Rattle.fork_call.proofs.OpenedCalls.{some_if}
use Rattle.fork_call.proofs.laws.WithToken.{fixed_with, reaches_with}
use Rattle.proxy_routing.specs.Targets.{is_domain}
use Rattle.fork_call.specs.Opening.{large_of}
use Rattle.fork_call.proofs.Distinct.{distinct}
use Rattle.fork_call.specs.inner.Distinct.{AreDistinct}
use Rattle.fork_call.proofs.opening.open_at.Goals as goal

pub begin-requires-clause-distinct : goal.begin-requires-clause-distinct
begin-requires-clause-distinct g c =
    let P : List CandidateTarget → Type 0 = λ cs. AreDistinct cs in
    subst P (sym (c.deref-2.ensures.value ∙ c.in_ok-candidates.ensures))
    (distinct c.locations_are_targets.ensures c.is_responsible_for-inside.result c.args.setup.now c.first_route-route.result c.args.uri.now c.locations-locations.ensures.rules)

pub returns-in-Ok-clause-opened : goal.returns-in-Ok-clause-opened
returns-in-Ok-clause-opened g c =
    let request = c.args.opening.request in
    let some : c.in_ok-candidates.candidates.items ≡ [] → ⊥ = some_if _ c.deref.result.now _ c.is_empty.result c.is_empty.ensures c.if-is_empty.false c.deref.ensures.value c.deref.ensures.len in
    let hops : list_all has_hop c.deref.result.now ≡ true = let a = c.have_hops.ensures in let b = c.if-not-have_hops.false in cc in
    let inside : c.is_responsible_for-inside.result ≡ is_domain c.args.setup.now c.args.uri.now = c.is_responsible_for-inside.ensures in
    let opened = fixed_with c.args.token c.args.setup.now 0 request c.args.opening.source c.args.uri.now c.own.result c.instance.result c.args.caller
    c.hop_if_any.result c.is_responsible_for-inside.result c.has_streams-streams.result (option_map (λ v. v.items) c.in_ok-recorded.recorded.datagram) (option_map (λ v. v.items) c.in_ok-recorded.recorded.stream) c.is_stream-from.result c.tried_by.result c.stamps.result c.gives_reasons.result c.ring.result c.in_ok-large.large c.first_route-route.result c.new-opened.result c.new-opened.ensures c.own.ensures.value c.instance.ensures c.requires.caller
    c.hop_if_any.ensures c.first_route-route.ensures inside c.tried_by.ensures c.has_streams-streams.ensures c.is_stream-from.ensures c.in_ok-recorded.ensures.datagram c.in_ok-recorded.ensures.stream c.stamps.ensures c.gives_reasons.ensures c.ring.ensures (c.in_ok-large.ensures ∙ ap (λ (v : Option (List ℕ)). large_of c.args.setup.now request c.args.uri.now v) c.text_in.ensures) in
    let P : List CandidateTarget → Type 0 = λ cs. list_all has_hop cs ≡ true in
    let B : List CandidateTarget → Type 0 = λ cs. IsBegun c.rules.result c.new-opened.result cs c.in-Ok.state in
    reaches_with c.args.token c.args.setup.now 0 request c.args.opening.source c.args.uri.now c.rules.result c.is_responsible_for-inside.result c.first_route-route.result c.new-opened.result
    c.in_ok-candidates.candidates.items c.in-Ok.state c.in_ok-candidates.ensures inside some (subst P c.deref.ensures.value hops) c.rules.ensures
    c.first_route-route.ensures opened (subst B c.deref-2.ensures.value c.in-Ok.ensures)

use Rattle.proxy_routing.proofs.Common.{Own, refl, subst, sym}
use Rattle.std.proofs.lemmas.Bool.{false≢true}
use Rattle.sip_route.specs.LoopTest.{IsLoop}
use Rattle.proxy_routing.proofs.admission.validate_read.Goals as goal

pub returns-then-is_loop-clause-refused : goal.returns-then-is_loop-clause-refused
returns-then-is_loop-clause-refused g c =
    let P : Own → Type 0 = λ own. IsLoop c.in_ok-request.request own in
    ((c.in_ok-request.ensures.routable, c.in_ok-request.request, c.in_ok-request.ensures.prepared, subst P c.own.ensures.value (c.if-is_loop.ensures.0 refl)), c.in_ok-request.ensures.prepared)

pub returns-clause-admitted : goal.returns-clause-admitted
returns-clause-admitted g c =
    let P : Own → Type 0 = λ own. IsLoop c.in_ok-request.request own in
    record {
      routable = c.in_ok-request.ensures.routable;
      prepared = c.in_ok-request.ensures.prepared;
      new_here = λ loop. false≢true (c.if-is_loop.ensures.1 (subst P (sym c.own.ensures.value) loop));
    }

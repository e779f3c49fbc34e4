use Rattle.std.proofs.lemmas.Bool.{false≢true}
use Rattle.proxy_routing.proofs.Common.{◌∙◌, ap, refl, sym, subst, MaxForwards, MayPass, is_spent}
use Rattle.proxy_routing.proofs.Admitting.{fault_of_other_scheme, may_pass, other_scheme}
use Rattle.proxy_routing.proofs.laws.ReadTops.{told_cookie}
use Rattle.proxy_routing.proofs.admission.routable.Goals as goal

pub returns-then-not-is_formed-clause-refused : goal.returns-then-not-is_formed-clause-refused
returns-then-not-is_formed-clause-refused g c = (sym c.if-not-is_formed.ensures, refl)

pub returns-then-is_of_another_scheme-clause-refused : goal.returns-then-is_of_another_scheme-clause-refused
returns-then-is_of_another_scheme-clause-refused g c = (
  (
    sym c.if-not-is_formed.ensures,
    other_scheme c.args.message c.request_uri.result.now c.uri_fault-fault.result c.uri_fault-fault.ensures.exact c.request_uri.ensures (c.if-is_of_another_scheme.ensures.0 refl),
  ),
  c.in_ok-marked.ensures.marked,
)

pub returns-clause-well : goal.returns-clause-well
returns-clause-well g c = record {
  formed = sym c.if-not-is_formed.ensures;
  scheme = λ other. false≢true (c.if-is_of_another_scheme.ensures.1 (fault_of_other_scheme c.args.message c.request_uri.result.now c.uri_fault-fault.result c.uri_fault-fault.ensures.exact c.request_uri.ensures other));
  hops = ap is_spent (sym c.max_forwards-hops.ensures.value) ∙ sym c.if-is_max_forwards_zero.ensures;
}

pub returns-clause-hops : goal.returns-clause-hops
returns-clause-hops g c =
    let m = c.args.message in
    let P : MaxForwards → Type 0 = λ hops. MayPass hops in
    let goes_on = ap is_spent (sym c.max_forwards-hops.ensures.value) ∙ sym c.if-is_max_forwards_zero.ensures in
    c.max_forwards-hops.ensures.passes.0 (subst P (sym c.max_forwards-hops.ensures.value) (may_pass m (sym c.if-not-is_formed.ensures) goes_on))

pub is_formed-requires-clause-via : goal.is_formed-requires-clause-via
is_formed-requires-clause-via g c = c.has_cookie.ensures ∙ told_cookie c.args.message c.args.source c.args.top.now c.requires

use Rattle.sip_route.proofs.Common.{◌≡◌, views}
use Rattle.std.specs.List.{list_any}
use Rattle.sip_route.specs.inner.Loop.{may_route}
use Rattle.sip_route.proofs.loops.may_be_routed.Given as goal

abbrev pub invariant-loop-header : goal.invariant-loop-header
invariant-loop-header l = list_any may_route (views l.header-iterator) ≡ list_any may_route (views l.headers)

-- What a request says of its hops, and whether it may be passed on.
use Rattle.sip_route.proofs.Common.{ℕ, List, Option, ◌↔◌, IfSome, first_value, MessageText, hops_name, arith}
use Rattle.sip_route.specs.Hops.{IsHops, MayPass, hops_if_any, hops_in, hops_of}

are_hops : (value : List ℕ) → MayPass (hops_in value) → IsHops value
are_hops value may = grind arith

pass : (value : List ℕ) → IsHops value → MayPass (hops_in value)
pass value h = grind arith

any_pass : (o : Option (List ℕ)) → MayPass (hops_if_any o) ↔ IfSome o IsHops
any_pass o = grind arith

pub may_pass : (m : MessageText) → MayPass (hops_of m) ↔ IfSome (first_value hops_name m.headers) IsHops
may_pass m = any_pass (first_value hops_name m.headers)

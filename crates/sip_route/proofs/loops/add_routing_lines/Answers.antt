use Rattle.sip_route.proofs.Common.{◌++◌, List, ℕ, subst, Holds, codes}
use Rattle.sip_route.specs.Loop.{all_values, field_line}
use Rattle.sip_route.proofs.Added.{three}
use Rattle.sip_route.proofs.loops.add_routing_lines.Goals as goal

pub returns : goal.returns
returns g c = λ m held.
    let route = field_line (all_values (codes "route") c.args.message.now) in
    let require = field_line (all_values (codes "proxy-require") c.args.message.now) in
    let authorization = field_line (all_values (codes "proxy-authorization") c.args.message.now) in
    subst (λ (t : List ℕ). Holds c.add_values-3.new.hasher t) (three m route require authorization)
    (c.add_values-3.ensures ((m ++ route) ++ require) (c.add_values-2.ensures (m ++ route) (c.add_values.ensures m held)))

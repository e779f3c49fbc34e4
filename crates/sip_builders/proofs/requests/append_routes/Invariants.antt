use Rattle.sip_builders.proofs.Common.{◌≡◌, ◌++◌, map, codes, flat_map, line, lines_as}
use Rattle.sip_text.specs.Text.{header_text}
use Rattle.sip_builders.proofs.requests.append_routes.Given as goal

abbrev pub invariant-loop-value : goal.invariant-loop-value
invariant-loop-value g l =
    (goal.iterator-loop-value g).can_next l.values ×
    (goal.iterator-loop-value g).is_finite l.values ×
    (l.out.items ++ flat_map header_text (map (line (codes "Route")) l.values) ≡ l.fn.out.items ++ flat_map header_text (lines_as (codes "Route") (codes "route") l.sent))

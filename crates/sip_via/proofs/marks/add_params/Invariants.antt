use Rattle.sip_via.proofs.Common.{◌≡◌, ◌++◌, ◌||◌, flat_map, list_any, asks_port, marked_param}
use Rattle.sip_via.proofs.marks.add_params.Given as goal

abbrev pub invariant-loop-param : goal.invariant-loop-param
invariant-loop-param g l =
    (goal.iterator-loop-param g).can_next l.params ×
    (goal.iterator-loop-param g).is_finite l.params ×
    (g.T.Growing.text l.out ++ flat_map (marked_param l.port) l.params ≡ g.T.Growing.text l.fn.out ++ flat_map (marked_param l.port) l.initial.params) ×
    (l.asked || list_any asks_port l.params ≡ list_any asks_port l.initial.params)

use Rattle.std.proofs.Common.{◌≡◌, ◌++◌}
use Rattle.std.specs.List.{flat_map}
use Rattle.service_users.specs.Told.{binding_line}
use Rattle.service_users.proofs.bound.append_there.Given as goal

-- those that are left lead on to all
abbrev pub invariant-loop-binding : goal.invariant-loop-binding
invariant-loop-binding g l =
    (goal.iterator-loop-binding g).can_next l.there ×
    (goal.iterator-loop-binding g).is_finite l.there ×
    (l.out.items ++ flat_map (binding_line l.user l.moment) l.there ≡ l.fn.out.items ++ flat_map (binding_line l.user l.moment) l.initial.there)

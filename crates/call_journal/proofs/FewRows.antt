-- No fork has more rows than targets may be tried.
use Rattle.std.proofs.Common.{◌≤◌, Bool, true, false, List, [], ◌∷◌, length, sym, subst, arith}
use Rattle.std.specs.Prelude.{if◌then◌else◌}
use Rattle.fork_model.specs.Table.{most_targets}
use Rattle.fork_model.specs.Event.{Event}
use Rattle.fork_model.specs.Core.{Core, core_after, core_next, core_offered, is_full, opening_core}
use Rattle.fork_model.specs.Steps.{EachTargetHasARow, TargetsAreBounded}
use Rattle.fork_context.specs.Led.{IsLedTo}

abbrev pub AreFew : Core → Type 0
AreFew core = length core.table.rows ≤ most_targets

chosen : TargetsAreBounded → (core : Core) (event : Event) (full : Bool) → AreFew core → AreFew (if full then core else core_next core event)
chosen bounded core event true few = few
chosen bounded core event false few = bounded core.table event core.taken few

few_after : TargetsAreBounded → (core : Core) (events : List Event) → AreFew core → AreFew (core_after core events)
few_after bounded core [] few = few
few_after bounded core (event ∷ events) few = few_after bounded (core_offered core event) events (chosen bounded core event (is_full core event) few)

pub few_led : TargetsAreBounded → EachTargetHasARow → (core : Core) → IsLedTo core → AreFew core
few_led bounded each core led =
    let start = opening_core led.kind led.rules led.targets in
    let few : AreFew start = omega (arith, each led.kind led.rules led.targets, led.few) in
    subst AreFew (sym led.led) (few_after bounded start led.events few)

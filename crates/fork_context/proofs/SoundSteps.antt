-- A context that takes an event keeps its bounds.
use Rattle.fork_context.proofs.Common.{◌≡◌, ◌≢◌, ◌≤◌, ℕ, suc, Bool, false, List, [], ◌∷◌, ◌++◌, length, arith, refl, ap, sym, ◌∙◌, AllByRecursion, Table, most_targets, Event, next, Core, is_full, targets_bounded, Kind, Rules, Target, opening}
use Rattle.fork_context.proofs.Common.{IsTargetInRange, AreRules, IsSound, IsKept, common_steps}
use Rattle.std.specs.Prelude.{if◌then◌else◌}
use Rattle.fork_model.specs.Core.{core_next, core_offered, core_after, opening_core}
use Rattle.fork_model.specs.Steps.{IsWithin}
use Rattle.fork_model.proofs.laws.StepLemmas.{positions_bounded, progress_bounded}
use Rattle.fork_model.proofs.laws.Arrivals.{next_arrivals, history_of_arrivals}
use Rattle.fork_model.specs.Range.{IsEventInRange}
use Rattle.fork_model.proofs.laws.ContactLemmas.{each_target}
use Rattle.fork_model.proofs.laws.SeriesLemmas.{keeps_series}
use Rattle.fork_model.proofs.laws.OpeningSeries.{opening_in_series}
use Rattle.fork_context.specs.Led.{IsLedTo}
use Rattle.fork_context.proofs.ClosingRows.{keeps_closed}

within_next : (core : Core) (event : Event) → is_full core event ≡ false → IsWithin core → IsWithin (core_next core event)
within_next core event open_yet within = grind (arith, common_steps, positions_bounded core event within)

pub sound_next : (core : Core) (event : Event) → is_full core event ≡ false → IsSound core.table core.taken
    → IsSound (next core.table event core.taken) (suc core.taken)
sound_next core event open_yet sound = grind (arith, common_steps, targets_bounded, within_next, next_arrivals)

-- a position is small
pub taken_small : (table : Table) (taken : ℕ) → IsSound table taken → taken ≤ 5121
taken_small table taken sound = omega (arith, progress_bounded table, sound.few, sound.within)

-- ---- the way here

all_behind : {X : Type 0} (P : X → Type 0) (xs : List X) (x : X) → AllByRecursion P xs → P x → AllByRecursion P (xs ++ x ∷ [])
all_behind P [] x all here = (here, tt)
all_behind P (y ∷ xs) x all here = (all.0, all_behind P xs x all.1 here)

after_one_more : (core : Core) (events : List Event) (event : Event) → core_after core (events ++ event ∷ []) ≡ core_offered (core_after core events) event
after_one_more core [] event = refl
after_one_more core (first ∷ events) event = after_one_more (core_offered core first) events event

led_next : (core : Core) (event : Event) → is_full core event ≡ false → IsEventInRange event → IsLedTo core → IsLedTo (core_next core event)
led_next core event open_yet in_range led =
    let taken : core_offered core event ≡ core_next core event = ap (λ (full : Bool). if full then core else core_next core event) open_yet in
    let start : Core = opening_core led.kind led.rules led.targets in
    record {
      kind = led.kind;
      rules = led.rules;
      targets = led.targets;
      events = led.events ++ event ∷ [];
      some = led.some;
      few = led.few;
      set = led.set;
      targets_in_range = led.targets_in_range;
      events_in_range = all_behind IsEventInRange led.events event led.events_in_range in_range;
      led = sym taken ∙ ap (λ (c : Core). core_offered c event) led.led ∙ sym (after_one_more start led.events event);
    }

pub kept_next : (core : Core) (event : Event) → is_full core event ≡ false → IsEventInRange event → IsKept core.table core.taken
    → IsKept (next core.table event core.taken) (suc core.taken)
kept_next core event open_yet in_range kept = record {
  sound = sound_next core event open_yet kept.sound;
  led = led_next core event open_yet in_range kept.led;
  series = keeps_series core.table event core.taken kept.series;
  whole = keeps_closed core.table event core.taken kept.whole;
}

-- the context as it opens
pub kept_opening : (kind : Kind) (rules : Rules) (targets : List Target) → targets ≢ [] → length targets ≤ most_targets → AreRules rules
    → AllByRecursion IsTargetInRange targets → IsKept (opening kind rules targets) 0
kept_opening kind rules targets some few set in_range =
    let each : length (opening kind rules targets).rows ≡ length targets = each_target kind rules targets in
    record {
      sound = record { few = omega arith; within = omega arith; apart = history_of_arrivals kind rules targets [] };
      led = record {
        kind = kind;
        rules = rules;
        targets = targets;
        events = [];
        some = some;
        few = few;
        set = set;
        targets_in_range = in_range;
        events_in_range = tt;
        led = refl;
      };
      series = opening_in_series kind rules targets;
      whole = λ done. absurd cc;
    }

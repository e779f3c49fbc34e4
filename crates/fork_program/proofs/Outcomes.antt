-- Offering one more event.
use Rattle.fork_program.proofs.Common.{◌≡◌, ℕ, List, [], ◌∷◌, ◌++◌, refl, sym, ap, subst, ◌∙◌, append_assoc, append-nil, Event, Core, core_offered, Script, opening_text, outcomes_text, opened, EndsWith, AddsOutcome, AddsOutcomes, ended, common_steps}
use Rattle.fork_program.proofs.Common.{arith}
use Rattle.fork_model.specs.Core.{Outcome, IsOutcome, AreOutcomes, core_after}
use Rattle.fork_program.specs.Replay.{outcome_text, IsReplay}

pub AreOutcomes-snoc : (core : Core) (events : List Event) (outcomes : List Outcome) (event : Event) (outcome : Outcome) → AreOutcomes core events outcomes → IsOutcome (core_after core events) event outcome → AreOutcomes core (events ++ event ∷ []) (outcomes ++ outcome ∷ [])
AreOutcomes-snoc core [] [] event outcome are last = (last, tt)
AreOutcomes-snoc core [] (o ∷ os) event outcome are last = absurd are
AreOutcomes-snoc core (e ∷ es) [] event outcome are last = absurd are
AreOutcomes-snoc core (e ∷ es) (o ∷ os) event outcome are last = grind (arith, common_steps, AreOutcomes-snoc (core_offered core e) es os event outcome are.1 last)

pub core_after-snoc : (core : Core) (events : List Event) (event : Event) → core_after core (events ++ event ∷ []) ≡ core_offered (core_after core events) event
core_after-snoc core [] event = refl
core_after-snoc core (e ∷ es) event = core_after-snoc (core_offered core e) es event

pub outcomes_text-snoc : (core : Core) (events : List Event) (outcomes : List Outcome) (event : Event) (outcome : Outcome) → AreOutcomes core events outcomes → outcomes_text core (events ++ event ∷ []) (outcomes ++ outcome ∷ []) ≡ outcomes_text core events outcomes ++ ended (outcome_text (core_offered (core_after core events) event).table.rows outcome)
outcomes_text-snoc core [] [] event outcome are = append-nil (ended (outcome_text (core_offered core event).table.rows outcome))
outcomes_text-snoc core [] (o ∷ os) event outcome are = absurd are
outcomes_text-snoc core (e ∷ es) [] event outcome are = absurd are
outcomes_text-snoc core (e ∷ es) (o ∷ os) event outcome are =
    let next = core_offered core e in
    grind (arith, common_steps, outcomes_text-snoc next es os event outcome are.1, append_assoc)

pub adds_one : (before mid after : Core) (events : List Event) (event : Event) (old text new : List ℕ) → AddsOutcomes before mid events old text → AddsOutcome mid after event text new → AddsOutcomes before after (events ++ event ∷ []) old new
adds_one before mid after events event old text new all one =
    let is : IsOutcome (core_after before events) event one.outcome = subst (λ core. IsOutcome core event one.outcome) all.next one.right in
    record {
      outcomes = all.outcomes ++ one.outcome ∷ [];
      right = AreOutcomes-snoc before events all.outcomes event one.outcome all.right is;
      next = one.next ∙ ap (λ core. core_offered core event) all.next ∙ sym (core_after-snoc before events event);
      spelled =
          one.spelled
          ∙ ap (λ t. t ++ ended (outcome_text (core_offered mid event).table.rows one.outcome)) all.spelled
          ∙ append_assoc old (outcomes_text before events all.outcomes) (ended (outcome_text (core_offered mid event).table.rows one.outcome))
          ∙ ap (λ core. old ++ (outcomes_text before events all.outcomes ++ ended (outcome_text (core_offered core event).table.rows one.outcome))) all.next
          ∙ ap (λ t. old ++ t) (sym (outcomes_text-snoc before events all.outcomes event one.outcome all.right));
    }

-- an opening line, a line for each event and a last line are the replay
pub is_replay : (script : Script) (first last : Core) (empty begun told whole : List ℕ) → first ≡ opened script → empty ≡ [] → begun ≡ empty ++ ended (opening_text first.table) → AddsOutcomes first last script.events begun told → EndsWith last.table told whole → IsReplay script whole
is_replay script first last empty begun told whole set_up none opening adds ends = grind arith

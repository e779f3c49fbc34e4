-- What a line behind an answer says goes to the last event.
use Rattle.fork_program.proofs.Common.{◌≡◌, List, [], ◌∷◌, ◌++◌, Result, Ok, Err, refl, sym, ap, ◌∙◌, OnOk, FinalAnswer, Event, Script, last_changed}
use Rattle.std.specs.Prelude.{OnErr}
use Rattle.fork_program.specs.Script.{answer_changed}

pub last_changed-snoc : (change : FinalAnswer → FinalAnswer) (events : List Event) (event : Event) → last_changed change (events ++ event ∷ []) ≡ events ++ answer_changed change event ∷ []
last_changed-snoc change [] event = refl
last_changed-snoc change (first ∷ []) event = refl
last_changed-snoc change (first ∷ next ∷ events) event = ap (λ (es : List Event). first ∷ es) (last_changed-snoc change (next ∷ events) event)

module _ {T E : Type 0} where
  -- where the last event was taken off, and put back with a change
  pub change_added : (change : FinalAnswer → FinalAnswer) (r : Result T E) (old shown new : Script) (before : List Event) (event other : Event) → old ≡ shown → shown.events ≡ before ++ event ∷ [] → OnOk r (other ≡ answer_changed change event) → new ≡ record shown { events = before ++ other ∷ [] } → OnOk r (new ≡ record old { events = last_changed change old.events })
  change_added change (Ok x) old shown new before event other seen last with_ h =
      h
      ∙ ap (λ (e : Event). record shown { events = before ++ e ∷ [] }) with_
      ∙ ap (λ (es : List Event). record shown { events = es }) (sym (last_changed-snoc change before event))
      ∙ ap (λ (es : List Event). record shown { events = last_changed change es }) (sym last)
      ∙ ap (λ (s : Script). record s { events = last_changed change s.events }) (sym seen)
  change_added change (Err x) old shown new before event other seen last with_ h = tt

  -- or as it was
  pub change_refused : (r : Result T E) (old shown new : Script) (before : List Event) (event other : Event) → old ≡ shown → shown.events ≡ before ++ event ∷ [] → OnErr r (other ≡ event) → new ≡ record shown { events = before ++ other ∷ [] } → OnErr r (new ≡ old)
  change_refused (Ok x) old shown new before event other seen last same h = tt
  change_refused (Err x) old shown new before event other seen last same h =
      h
      ∙ ap (λ (e : Event). record shown { events = before ++ e ∷ [] }) same
      ∙ ap (λ (es : List Event). record shown { events = es }) (sym last)
      ∙ sym seen

-- What holds after any history.
use Rattle.std.proofs.Common.{◌≡◌, ◌⊎◌, ℕ, Bool, true, false, cond, List, [], ◌∷◌, Option, Some, None, Result, Ok, Err, refl, sym, ap, ◌∙◌, inl, inr}
use Rattle.std.specs.Prelude.{◌↔◌}
use Rattle.bindings.specs.declared.refusal.RegisterRefusal.{RegisterRefusal}
use Rattle.bindings.specs.declared.refusal.RegisterRefusal.TheVariants.{Star, TooMany, Twice, TooBrief, OutOfOrder, NoMemory}
use Rattle.bindings.specs.Bindings.{Binding, Register, changed, is_there, there}
use Rattle.bindings.specs.Registering.{Registers, is_repeat, refusal, registered, unless}
use Rattle.bindings.specs.History.{Attempt, Differ, EachPair, IsAsked, IsIn, IsRun, IsTaken, Stands, Stays, bindings_after, if_taken, kept, or_old, taken}
use Rattle.bindings.proofs.Members.{filter_in, in_filter, not_both}
use Rattle.bindings.proofs.Requests.{changed_apart, changed_from, changed_to, ready_there}

-- ---- what is kept is the fold

err_keeps : (r : Register) (old new : List Binding) (why : RegisterRefusal) → Registers r old new (Err why) → new ≡ old
err_keeps r old new Star h = h.1
err_keeps r old new TooMany h = h.1
err_keeps r old new Twice h = h.1
err_keeps r old new TooBrief h = h.1
err_keeps r old new OutOfOrder h = h.1
err_keeps r old new NoMemory h = h.1

run_step : (r : Register) (old new : List Binding) (earlier : List Register) (answer : Result (Unit {0}) RegisterRefusal) → Registers r old new answer → old ≡ bindings_after earlier → new ≡ bindings_after (if_taken answer r earlier)
run_step r old new earlier (Ok _) h e = sym (ap (λ (bs : List Binding). or_old bs (registered r bs)) (sym e) ∙ ap (or_old old) h)
run_step r old new earlier (Err why) h e = err_keeps r old new why h ∙ e

pub kept_is_fold : (run : List Attempt) → IsRun run → kept run ≡ bindings_after (taken run)
kept_is_fold [] h = refl
kept_is_fold (attempt ∷ earlier) h = run_step attempt.request (kept earlier) attempt.after (taken earlier) attempt.answer h.0 (kept_is_fold earlier h.1)

-- ---- those of one request

apart_step : (r : Register) (old : List Binding) → EachPair Differ old → EachPair Differ (or_old old (registered r old))
apart_step r old apart = one (is_repeat r old) refl (refusal r (there r.at old)) refl
  where
    one : (v : Bool) → is_repeat r old ≡ v → (o : Option RegisterRefusal) → refusal r (there r.at old) ≡ o → EachPair Differ (or_old old (cond v (Ok old) (unless o (changed r (there r.at old)))))
    one true e o f = apart
    one false e (Some why) f = apart
    one false e None f = changed_apart r (there r.at old) (ready_there r old apart e) f

pub after_apart : (history : List Register) → EachPair Differ (bindings_after history)
after_apart [] = tt
after_apart (r ∷ earlier) = apart_step r (bindings_after earlier) (after_apart earlier)

-- ---- which are kept

some_none : (why : RegisterRefusal) (o : Option RegisterRefusal) → o ≡ Some why → o ≡ None → ⊥
some_none why o e f = let wrong : Some why ≡ None = sym e ∙ f in absurd cc

stands_step : (r : Register) (old : List Binding) (x : Binding) (S : Type 0) → EachPair Differ old → (IsIn x old → S) → IsIn x (or_old old (registered r old))
    → (IsTaken r old × IsAsked r r.contacts x) ⊎ (S × (IsTaken r old → Stays r old x))
stands_step r old x S apart stood k = one (is_repeat r old) refl (refusal r (there r.at old)) refl k
  where
    one : (v : Bool) → is_repeat r old ≡ v → (o : Option RegisterRefusal) → refusal r (there r.at old) ≡ o → IsIn x (or_old old (cond v (Ok old) (unless o (changed r (there r.at old)))))
        → (IsTaken r old × IsAsked r r.contacts x) ⊎ (S × (IsTaken r old → Stays r old x))
    one true e o f k = inr (stood k, λ t. absurd (not_both (is_repeat r old) e t.0))
    one false e (Some why) f k = inr (stood k, λ t. absurd (some_none why (refusal r (there r.at old)) f t.1))
    one false e None f k = elim (changed_from r (there r.at old) x (ready_there r old apart e) f k) [
      | inl asked ↦ inl ((e, f), asked)
      | inr h ↦ let there_is = in_filter (is_there r.at) old x h.0 in inr (stood there_is.0, λ t. (there_is.1, h.1))
    ]

standing_step : (r : Register) (old : List Binding) (x : Binding) (S : Type 0) → EachPair Differ old → (S → IsIn x old)
    → (IsTaken r old × IsAsked r r.contacts x) ⊎ (S × (IsTaken r old → Stays r old x)) → IsIn x (or_old old (registered r old))
standing_step r old x S apart stands h = one (is_repeat r old) refl (refusal r (there r.at old)) refl h
  where
    one : (v : Bool) → is_repeat r old ≡ v → (o : Option RegisterRefusal) → refusal r (there r.at old) ≡ o
        → (IsTaken r old × IsAsked r r.contacts x) ⊎ (S × (IsTaken r old → Stays r old x)) → IsIn x (or_old old (cond v (Ok old) (unless o (changed r (there r.at old)))))
    one true e o f (inl h) = absurd (not_both (is_repeat r old) e h.0.0)
    one true e o f (inr h) = stands h.0
    one false e (Some why) f (inl h) = absurd (some_none why (refusal r (there r.at old)) f h.0.1)
    one false e (Some why) f (inr h) = stands h.0
    one false e None f (inl h) = changed_to r (there r.at old) x (ready_there r old apart e) f (inl h.1)
    one false e None f (inr h) = let stays = h.1 (e, f) in changed_to r (there r.at old) x (ready_there r old apart e) f (inr (filter_in (is_there r.at) old x (stands h.0) stays.0, stays.1))

stands : (history : List Register) (x : Binding) → IsIn x (bindings_after history) → Stands history x
stands [] x k = k
stands (r ∷ earlier) x k = stands_step r (bindings_after earlier) x (Stands earlier x) (after_apart earlier) (λ i. stands earlier x i) k

standing : (history : List Register) (x : Binding) → Stands history x → IsIn x (bindings_after history)
standing [] x s = s
standing (r ∷ earlier) x s = standing_step r (bindings_after earlier) x (Stands earlier x) (after_apart earlier) (λ i. standing earlier x i) s

pub there_stand : (history : List Register) (moment : ℕ) (x : Binding) → IsIn x (there moment (bindings_after history)) ↔ (Stands history x × (is_there moment x ≡ true))
there_stand history moment x = (
  λ k. (let h = in_filter (is_there moment) (bindings_after history) x k in (stands history x h.0, h.1)),
  λ h. filter_in (is_there moment) (bindings_after history) x (standing history x h.0) h.1,
)

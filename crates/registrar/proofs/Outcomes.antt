-- What becomes of a request, by what the bindings say of it.
use Rattle.std.proofs.Common.{◌≡◌, ℕ, ◌+◌, Bool, true, false, cond, List, length, Option, Some, None, Result, Ok, Err, refl, ap, sym, ◌∙◌}
use Rattle.std.specs.Prelude.{nat_lt}
use Rattle.sip_build.specs.declared.responses.OwnStatus.TheVariants.{BadRequest}
use Rattle.bindings.specs.declared.refusal.RegisterRefusal.{RegisterRefusal}
use Rattle.bindings.specs.declared.refusal.RegisterRefusal.TheVariants.{Star, TooMany, Twice, TooBrief, OutOfOrder, NoMemory}
use Rattle.bindings.specs.Bindings.{Binding, Register, changed, there}
use Rattle.bindings.specs.Registering.{Prepares, is_repeat, refusal, registered, unless}
use Rattle.registrar.specs.Asking.{Registration}
use Rattle.registrar.specs.Outcome.{Changes, Outcome, Refused, Repeated, full_answer, is_malformed, outcome_by, outcome_of, refused_by, refused_with, register_of, unless_full}

pub changed_is : (r : Register) (others most : ℕ) (old new : List Binding) → refusal r (there r.at old) ≡ None → new ≡ changed r (there r.at old)
    → unless_full others most new ≡ outcome_by r others most old (refusal r (there r.at old))
changed_is r others most old new none is =
    ap (λ (bs : List Binding). unless_full others most bs) is ∙ ap (λ (o : Option RegisterRefusal). outcome_by r others most old o) (sym none)

pub refused_is : (r : Register) (others most : ℕ) (old : List Binding) (why : RegisterRefusal) → refusal r (there r.at old) ≡ Some why
    → refused_by r.least why ≡ outcome_by r others most old (refusal r (there r.at old))
refused_is r others most old why is = ap (λ (o : Option RegisterRefusal). outcome_by r others most old o) (sym is)

-- why the bindings refuse a request, but for want of memory
pub told : (r : Register) (old : List Binding) (why : RegisterRefusal) → Prepares r old (Err why) → (why ≡ NoMemory → ⊥) → refusal r (there r.at old) ≡ Some why
told r old Star h not = h.1
told r old TooMany h not = h.1
told r old Twice h not = h.1
told r old TooBrief h not = h.1
told r old OutOfOrder h not = h.1
told r old NoMemory h not = absurd (not refl)

-- ---- what becomes of a request is what the bindings make of it

full_or : (full : Bool) (made new : List Binding) → cond full (Refused full_answer) (Changes made) ≡ Changes new → made ≡ new
full_or true made new h = absurd cc
full_or false made new h = cc

none_refused : (least : ℕ) (why : RegisterRefusal) (new : List Binding) → refused_by least why ≡ Changes new → ⊥
none_refused least Star new h = absurd cc
none_refused least TooMany new h = absurd cc
none_refused least Twice new h = absurd cc
none_refused least TooBrief new h = absurd cc
none_refused least OutOfOrder new h = absurd cc
none_refused least NoMemory new h = absurd cc

none_repeated : (least : ℕ) (why : RegisterRefusal) → refused_by least why ≡ Repeated → ⊥
none_repeated least Star h = absurd cc
none_repeated least TooMany h = absurd cc
none_repeated least Twice h = absurd cc
none_repeated least TooBrief h = absurd cc
none_repeated least OutOfOrder h = absurd cc
none_repeated least NoMemory h = absurd cc

never_repeated : (full : Bool) (made : List Binding) → cond full (Refused full_answer) (Changes made) ≡ Repeated → ⊥
never_repeated true made h = absurd cc
never_repeated false made h = absurd cc

module _ (r : Register) (others most : ℕ) (old : List Binding) where
  abbrev made : List Binding
  made = changed r (there r.at old)

  abbrev row : (repeats malformed : Bool) → Option RegisterRefusal → Outcome
  row repeats malformed why = cond repeats Repeated (cond malformed (refused_with BadRequest) (outcome_by r others most old why))

  abbrev given : (repeats : Bool) → Option RegisterRefusal → Result (List Binding) RegisterRefusal
  given repeats why = cond repeats (Ok old) (unless why made)

  changes : (repeats malformed : Bool) (why : Option RegisterRefusal) (new : List Binding) → row repeats malformed why ≡ Changes new → given repeats why ≡ Ok new
  changes true malformed why new h = absurd cc
  changes false true why new h = absurd cc
  changes false false (Some why) new h = absurd (none_refused r.least why new h)
  changes false false None new h = ap Ok (full_or (nat_lt most (others + length made)) made new h)

  repeats_are : (repeats malformed : Bool) (why : Option RegisterRefusal) → row repeats malformed why ≡ Repeated → given repeats why ≡ Ok old
  repeats_are true malformed why h = refl
  repeats_are false true why h = absurd cc
  repeats_are false false (Some why) h = absurd (none_repeated r.least why h)
  repeats_are false false None h = absurd (never_repeated (nat_lt most (others + length made)) made h)

pub changed_by : (registration : Registration) (others most : ℕ) (old new : List Binding) → outcome_of registration others most old ≡ Changes new → registered (register_of registration) old ≡ Ok new
changed_by registration others most old new h =
    let r = register_of registration in
    changes r others most old (is_repeat r old) (is_malformed registration.contacts) (refusal r (there r.at old)) new h

pub repeated_by : (registration : Registration) (others most : ℕ) (old : List Binding) → outcome_of registration others most old ≡ Repeated → registered (register_of registration) old ≡ Ok old
repeated_by registration others most old h =
    let r = register_of registration in
    repeats_are r others most old (is_repeat r old) (is_malformed registration.contacts) (refusal r (there r.at old)) h

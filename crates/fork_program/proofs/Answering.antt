-- The line of a check's answer, appended in steps.
use Rattle.std.proofs.Common.{[], append-nil, codes}
use Rattle.fork_listing.specs.declared.refusal.CheckFault.TheVariants.{FinalLine}
use Rattle.std.proofs.lemmas.List.{take_at}
use Rattle.fork_program.proofs.Common.{◌≡◌, ℕ, List, ◌++◌, length, take, Result, Ok, Err, refl, sym, ap, subst, ◌∙◌, append_assoc, IfOk, Verdict, CheckFault, ended, IsAnswer}
use Rattle.fork_program.specs.Answer.{AppendsLine}

module _ {E : Type 0} where
  pub appends_fault : (r : Result ℕ E) (found named : Result Verdict CheckFault) (line old new : List ℕ) → found ≡ named → IfOk r (λ status. (status ≡ 4) × (new ≡ old ++ ended line)) → ((status : ℕ) → status ≡ 4 → IsAnswer named status line) → IfOk r (AppendsLine found old new)
  appends_fault (Ok status) found named line old new same h is =
      let P : Result Verdict CheckFault → Type 0 = λ f. IsAnswer f status line in
      record { line = line; answer = subst P (sym same) (is status h.0); spelled = h.1 }
  appends_fault (Err e) found named line old new same h is = tt

-- what stood there still stands at the front
pub front_stays : (old new more : List ℕ) → new ≡ old ++ more → take (length old) new ≡ old
front_stays old new more e = ap (take (length old)) e ∙ take_at old more (length old) refl

pub front_alone : (old new : List ℕ) → new ≡ old → take (length old) new ≡ old
front_alone old new e = front_stays old new [] (e ∙ sym (append-nil old))

pub front_of_two : (old mid new a b : List ℕ) → mid ≡ old ++ a → new ≡ mid ++ b → take (length old) new ≡ old
front_of_two old mid new a b e f = front_stays old new (a ++ b) (f ∙ ap (λ (t : List ℕ). t ++ b) e ∙ append_assoc old a b)

pub front_of_three : (old mid more new a b c : List ℕ) → mid ≡ old ++ a → more ≡ mid ++ b → new ≡ more ++ c → take (length old) new ≡ old
front_of_three old mid more new a b c e f h =
    front_of_two old more new (a ++ b) c (f ∙ ap (λ (t : List ℕ). t ++ b) e ∙ append_assoc old a b) h

pub appends_final_line : (fault : CheckFault) (old new : List ℕ) → fault ≡ FinalLine → new ≡ old ++ ended (codes "no K5") → AppendsLine (Err fault) old new 4
appends_final_line fault old new same h =
    let P : CheckFault → Type 0 = λ f. IsAnswer (Err f) 4 (codes "no K5") in
    record { line = codes "no K5"; answer = subst P (sym same) (refl, refl); spelled = h }

-- Why the targets of a script are refused.
use Rattle.fork_program.proofs.Common.{◌≡◌, ◌≤◌, List, [], length, Ok, Err, ◌↔◌, IsErrOf, most_targets, Target, Script, arith}
use Rattle.fork_context.specs.declared.context.NewFault.{NewFault}
use Rattle.fork_context.specs.declared.context.NewFault.TheVariants as setup
use Rattle.fork_context.specs.Refusals.{HasTwice, IsTooMany}
use Rattle.fork_program.specs.Faults.{IsSetupFault}
use Rattle.fork_program.specs.inner.Faults.{IsForkRefusal}
use Rattle.fork_program.specs.FaultView.{fault_set_up}

ok_is : {T : Type 0} {made : T} {fault : NewFault} → Ok made ≡ Err fault → ⊥
ok_is e = absurd cc

pub fork_refused : {T : Type 0} (script : Script) (targets : List Target) (fault : NewFault) → script.targets ≡ targets → (IsErrOf {T = T} (Err fault) setup.NoTargets ↔ (targets ≡ [])) → (IsErrOf {T = T} (Err fault) setup.TooMany ↔ IsTooMany targets) → (IsErrOf {T = T} (Err fault) setup.Twice ↔ ((length targets ≤ most_targets) × HasTwice targets)) → IsForkRefusal script (fault_set_up fault)
fork_refused script targets fault same none many twice = grind arith

pub fork_taken : {T : Type 0} (script : Script) (targets : List Target) (made : T) → script.targets ≡ targets → (IsErrOf {E = NewFault} (Ok made) setup.NoTargets ↔ (targets ≡ [])) → (IsErrOf {E = NewFault} (Ok made) setup.TooMany ↔ IsTooMany targets) → (IsErrOf {E = NewFault} (Ok made) setup.Twice ↔ ((length targets ≤ most_targets) × HasTwice targets)) → (fault : NewFault) → IsSetupFault script.targets fault → ⊥
fork_taken script targets made same none many twice fault is = grind arith

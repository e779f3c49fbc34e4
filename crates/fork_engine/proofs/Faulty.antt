use Rattle.std.proofs.Common.{Result, Ok, Err, IfErr, IsErrAnd}
use Rattle.fork_context.specs.declared.context.NewFault.{NewFault}
use Rattle.fork_engine.specs.declared.fault.DriveFault.{DriveFault}
use Rattle.fork_engine.specs.declared.fault.DriveFault.TheVariants.{New, Full, NoMemory, Torn}
use Rattle.fork_engine.specs.Faults.{IsNew, IsNoNew}

pub no_new : {A B : Type 0} → (fault : NewFault) (r : Result B (DriveFault A)) → IfErr r IsNoNew → IsErrAnd r (IsNew fault) → ⊥
no_new fault (Ok b) h n = n
no_new fault (Err (New other)) h n = h
no_new fault (Err Full) h n = n
no_new fault (Err NoMemory) h n = n
no_new fault (Err (Torn book)) h n = n

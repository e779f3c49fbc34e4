-- What follows where all was appended, and where it was refused.
use Rattle.sip_build.proofs.Common.{Result, OnErr, OnOk, arith}

pub of_err : {T E P : Type 0} (r : Result T E) → P → OnErr r P
of_err r p = grind arith

pub on_ok : {T E P Q : Type 0} (r : Result T E) → (P → Q) → OnOk r P → OnOk r Q
on_ok r f p = grind arith

pub on_err : {T E P Q : Type 0} (r : Result T E) → (P → Q) → OnErr r P → OnErr r Q
on_err r f p = grind arith

-- Whom a proxy serves, and what it decides, in memory.
use Rattle.std.specs.Prelude.{ℕ, Vec}
use Rattle.std.specs.Option.{option_map}
use Rattle.authentication.specs.SeenRealm.{realm_if_any}
use Rattle.authentication.specs.declared.decision.CallAdmission.{CallAdmission}
use Rattle.authentication.specs.declared.decision.Decision.{Decision}
use Rattle.authentication.specs.declared.decision.Decision.TheVariants as decision
use Rattle.authentication.specs.Decision as spec

abbrev pub seen_admission : {U : Type 0} → CallAdmission U → spec.Admission
seen_admission admission = record { domain = admission.domain; realm = realm_if_any admission.realm; secret = admission.secret.now; serves_strangers = admission.serves_strangers }

abbrev pub seen_decision : {A : Type 0} → Decision A → spec.Decision
seen_decision decision.Registers = spec.Registers
seen_decision (decision.Opens rule) = spec.Opens rule
seen_decision {A} (decision.Turned answer noted) = spec.Turned answer (option_map (λ (name : Vec ℕ A). name.items) noted)

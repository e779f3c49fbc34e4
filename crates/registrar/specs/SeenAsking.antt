-- What a request asks for, in memory.
use Rattle.std.specs.Prelude.{ℕ, Vec}
use Rattle.std.specs.Option.{option_map}
use Rattle.registrar.specs.declared.asking.Asking.{Asking}
use Rattle.registrar.specs.declared.asking.Asking.TheVariants as asking
use Rattle.registrar.specs.declared.asking.Registration.{Registration}
use Rattle.registrar.specs.SeenContacts.{seen_contacts}
use Rattle.registrar.specs.Asking as spec

module _ {A : Type 0} where
  abbrev pub seen_registration : Registration A → spec.Registration
  seen_registration r = record {
    user = r.user.items;
    id = record { call_id = r.call_id.now; cseq = r.cseq; key = r.key.items };
    at = r.at;
    least = r.least;
    contacts = seen_contacts r.contacts;
  }

  abbrev pub seen_asking : Asking A → spec.Asking
  seen_asking (asking.Turned answer noted) = spec.Turned answer (option_map (λ (name : Vec ℕ A). name.items) noted)
  seen_asking (asking.Registers r) = spec.Registers (seen_registration r)

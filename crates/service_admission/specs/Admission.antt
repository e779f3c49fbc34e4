-- Which datagrams are let in.
use Rattle.std.specs.Prelude.{◌≡◌, ◌⊎◌, ℕ, Bool, true, Option, None, Some}
use Rattle.service_admission.specs.Limits.{Limits, charged_at, is_admitted, swept_at}

-- whether an address may send at a moment, and what is spent from then on: as the limit says, if there is one; an address that there was no
-- memory to keep may send, and spends nothing
abbrev pub AdmitsBy : Limits → Option Limits → ℕ → ℕ → Bool → Type 0
AdmitsBy swept new now address answer =
    ((answer ≡ is_admitted swept.most now swept.buckets address) × (new ≡ Some (charged_at now swept address)))
    ⊎ ((answer ≡ true) × (new ≡ Some swept))

abbrev pub Admits : Option Limits → Option Limits → ℕ → ℕ → Bool → Type 0
Admits None new now address answer = (new ≡ None) × (answer ≡ true)
Admits (Some old) new now address answer = AdmitsBy (swept_at now old) new now address answer

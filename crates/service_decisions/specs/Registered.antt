-- What becomes of a REGISTER for the domain of a service (RFC 3261 section 10.3).
use Rattle.std.specs.Prelude.{◌≡◌, ◌⊎◌, ℕ, List, Option, Some, None}
use Rattle.sip_text.specs.Text.{MessageText}
use Rattle.sip_uri.specs.declared.hop.Hop.{Hop}
use Rattle.authentication.specs.Answer.{Answer}
use Rattle.authentication.specs.declared.domain.Domain.{Domain}
use Rattle.bindings.specs.Bindings.{Binding}
use Rattle.proxy_config.specs.Setup.{Setup}
use Rattle.registrar.specs.declared.expirations.AskedExpirations.{AskedExpirations}
use Rattle.registrar.specs.declared.source.Source.{Source}
use Rattle.registrar.specs.Asking.{Asking, IsAsking, Registration, Registers, Turned}
use Rattle.registrar.specs.Outcome as outcome
use Rattle.registrar.specs.Outcome.{Outcome, full_answer, outcome_of}
use Rattle.registrar.specs.Shown.{IsOkay}
use Rattle.service_config.specs.declared.expirations.Expirations.{Expirations}
use Rattle.service_config.specs.Settings.{is_inside}
use Rattle.service_decisions.specs.Served.{IsDomainOf}
use Rattle.service_decisions.specs.Serving.{Serving, realm_at}

pub data Registered : Type 0 where
  -- it changes nothing, and is answered so; with the name for which wrong credentials came, if that is to be noted
  Answered : Answer → (noted : Option (List ℕ)) → Registered
  -- what this user has afterwards, and how it is answered then
  Changes : (user : List ℕ) → List Binding → Answer → Registered
  -- another change of this user's bindings is under way, and nothing is answered
  Waits : Registered

-- ---- what it makes of bindings

-- the new ones, if it makes any, and the answer, by what the registrar makes of those that are held
abbrev pub IsMade : Serving → (held : List Binding) → Outcome → (new : Option (List Binding)) → Answer → Type 0
IsMade serving held outcome.Repeated new answer = (new ≡ None) × IsOkay serving.moment serving.second held answer
IsMade serving held (outcome.Refused refusal) new answer = (new ≡ None) × (answer ≡ refusal)
IsMade serving held (outcome.Changes bindings) new answer = (new ≡ Some bindings) × IsOkay serving.moment serving.second bindings answer

-- how many there may be in all is known to the table of all users
abbrev pub IsMadeOf : Serving → Registration → (held : List Binding) → (new : Option (List Binding)) → Answer → Type 0
IsMadeOf serving r held new answer = IsMade serving held (outcome_of r 0 4294967295 held) new answer

abbrev pub with_change : (user : List ℕ) → (new : Option (List Binding)) → Answer → Registered
with_change user None answer = Answered answer None
with_change user (Some bindings) answer = Changes user bindings answer

-- it waits; or there are too many in all; or it is made
abbrev pub IsTaken : Serving → Registration → Registered → Type 0
IsTaken serving r registered =
    (registered ≡ Waits)
    ⊎ ((registered ≡ Answered full_answer None)
    ⊎ ((held : List Binding) × (new : Option (List Binding)) × (answer : Answer) × IsMadeOf serving r held new answer × (registered ≡ with_change r.user new answer)))

-- ---- by what it asks for

abbrev pub asked_of : Expirations → AskedExpirations
asked_of times = record { least = times.least; usual = times.usual; most = times.most }

abbrev pub source_of : Serving → Hop → Source
source_of serving source = record { hop = source; inside = is_inside serving.settings source.addr; second = serving.second; millisecond = serving.moment }

abbrev pub IsRegisteredBy : Serving → Asking → Registered → Type 0
IsRegisteredBy serving (Turned answer name) registered = registered ≡ Answered answer name
IsRegisteredBy serving (Registers r) registered = IsTaken serving r registered

pub record IsRegistered (serving : Serving) (setup : Setup) (m : MessageText) (source : Hop) (registered : Registered) : Type 0 where
  pub domain : Domain
  pub asking : Asking
  pub domain_is : IsDomainOf setup domain
  pub asking_is : IsAsking domain (realm_at serving) (asked_of serving.settings.expirations) (source_of serving source) m asking
  pub by : IsRegisteredBy serving asking registered

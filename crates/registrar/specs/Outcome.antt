-- What a REGISTER request makes of the bindings of its user, and how it is answered (RFC 3261 section 10.3 steps 6 to 8).
use Rattle.std.specs.Prelude.{ℕ, ◌+◌, Bool, true, false, List, [], ◌∷◌, length, Option, Some, None, nat_lt, codes, if◌then◌else◌}
use Rattle.std.specs.Fmt.{decimal}
use Rattle.sip_via.specs.Edits.{line}
use Rattle.sip_build.specs.declared.responses.OwnStatus.{OwnStatus}
use Rattle.sip_build.specs.declared.responses.OwnStatus.TheVariants.{BadRequest, IntervalTooBrief, ServerInternalError, ServiceUnavailable}
use Rattle.authentication.specs.Answer.{Answer, plain}
use Rattle.bindings.specs.declared.refusal.RegisterRefusal.{RegisterRefusal}
use Rattle.bindings.specs.declared.refusal.RegisterRefusal.TheVariants.{Star, TooMany, Twice, TooBrief, OutOfOrder, NoMemory}
use Rattle.bindings.specs.Bindings.{Asked, Binding, Register, changed, there}
use Rattle.bindings.specs.Registering.{is_repeat, refusal}
use Rattle.registrar.specs.Asking.{Registration}
use Rattle.registrar.specs.Contacts.{Contacts}
use Rattle.registrar.specs.Contacts as contacts

abbrev pub star_of : Contacts → Option ℕ
star_of contacts.Malformed = None
star_of (contacts.Star seconds) = Some seconds
star_of (contacts.Listed asked) = None

abbrev pub listed_of : Contacts → List Asked
listed_of contacts.Malformed = []
listed_of (contacts.Star seconds) = []
listed_of (contacts.Listed asked) = asked

abbrev pub is_malformed : Contacts → Bool
is_malformed contacts.Malformed = true
is_malformed (contacts.Star seconds) = false
is_malformed (contacts.Listed asked) = false

-- as the bindings take it
abbrev pub register_of : Registration → Register
register_of r = record { id = r.id; at = r.at; least = r.least; star = star_of r.contacts; contacts = listed_of r.contacts }

pub data Outcome : Type 0 where
  -- it was taken before
  Repeated : Outcome
  Refused : Answer → Outcome
  -- the bindings afterwards
  Changes : List Binding → Outcome

abbrev pub too_brief_answer : (least : ℕ) → Answer
too_brief_answer least = record { status = IntervalTooBrief; lines = line (codes "Min-Expires") (decimal least) ∷ [] }

abbrev pub refused_with : OwnStatus → Outcome
refused_with status = Refused (plain status)

-- as the bindings refuse it; where memory is wanting nothing is answered
abbrev pub refused_by : (least : ℕ) → RegisterRefusal → Outcome
refused_by least Star = refused_with BadRequest
refused_by least TooMany = refused_with BadRequest
refused_by least Twice = refused_with BadRequest
refused_by least TooBrief = Refused (too_brief_answer least)
refused_by least OutOfOrder = refused_with ServerInternalError
refused_by least NoMemory = refused_with ServerInternalError

-- there are too many bindings in all: it may come again in a minute (section 20.33)
abbrev pub full_answer : Answer
full_answer = record { status = ServiceUnavailable; lines = line (codes "Retry-After") (codes "60") ∷ [] }

-- so many the others have, and so many there may be in all
abbrev pub unless_full : (others most : ℕ) → List Binding → Outcome
unless_full others most bindings = if nat_lt most (others + length bindings) then Refused full_answer else Changes bindings

abbrev pub outcome_by : Register → (others most : ℕ) → List Binding → Option RegisterRefusal → Outcome
outcome_by r others most bindings (Some why) = refused_by r.least why
outcome_by r others most bindings None = unless_full others most (changed r (there r.at bindings))

-- a repeat changes nothing; else the first row that holds, or the change
abbrev pub outcome_with : Register → (malformed : Bool) → (others most : ℕ) → List Binding → Outcome
outcome_with r malformed others most bindings =
    if is_repeat r bindings then Repeated
    else (if malformed then refused_with BadRequest
    else outcome_by r others most bindings (refusal r (there r.at bindings)))

abbrev pub outcome_of : Registration → (others most : ℕ) → List Binding → Outcome
outcome_of r others most bindings = outcome_with (register_of r) (is_malformed r.contacts) others most bindings

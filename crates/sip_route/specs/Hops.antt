-- The header field Max-Forwards: how many more proxies a request may pass (RFC 3261 sections 8.1.1.6,
-- 16.3 step 3 and 20.22).
use Rattle.std.specs.Prelude.{◌≡◌, ℕ, ◌≤◌, true, List, length, codes, Option, Some, None, nat_le, if◌then◌else◌}
use Rattle.sip_lex.specs.Number.{is_number, number, number_within}
use Rattle.sip_text.specs.Name.{first_value}
use Rattle.sip_text.specs.Text.{MessageText}
use Rattle.sip_route.specs.declared.hops.MaxForwards.{MaxForwards}
use Rattle.sip_route.specs.declared.hops.MaxForwards.TheVariants.{Unsaid, Said, Wrong}

abbrev pub hops_name : List ℕ
hops_name = codes "max-forwards"

-- ---- what a request may be passed on with

-- one to three digits of 1 to 255
pub record IsHops (value : List ℕ) : Type 0 where
  pub digits : is_number value ≡ true
  pub short : length value ≤ 3
  pub positive : 1 ≤ number value
  pub within : number value ≤ 255

-- ---- what a request says

abbrev pub said : Option ℕ → MaxForwards
said None = Wrong
said (Some n) = Said n

-- one to three digits of 0 to 255
abbrev pub hops_in : List ℕ → MaxForwards
hops_in value = if nat_le (length value) 3 then said (number_within 255 value) else Wrong

abbrev pub hops_if_any : Option (List ℕ) → MaxForwards
hops_if_any None = Unsaid
hops_if_any (Some value) = hops_in value

-- by the first line
abbrev pub hops_of : MessageText → MaxForwards
hops_of m = hops_if_any (first_value hops_name m.headers)

-- nothing, or one more proxy at least
abbrev pub MayPass : MaxForwards → Type 0
MayPass Unsaid = Unit {0}
MayPass (Said n) = 1 ≤ n
MayPass Wrong = ⊥

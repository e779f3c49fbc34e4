-- What is wrong with a line that is no start line, said of its bytes (RFC 3261 sections 7.1, 7.2 and 21.5.6).
use Rattle.std.specs.Prelude.{◌≡◌, ◌<◌, ◌⊎◌, ℕ, true, false, List, ◌∷◌, ◌++◌}
use Rattle.std.specs.List.{AllByRecursion}
use Rattle.sip_lex.specs.Bytes.{is_space}
use Rattle.sip_text.specs.Grammar.{IsStartLine}
use Rattle.sip_text.specs.Reading.{Fault, BadStart, BadVersion, BadStatus, begins_with_sip, is_status, is_version}
use Rattle.sip_text.specs.Text.{StartText, status_text}

-- no space stands in it
abbrev pub IsWord : List ℕ → Type 0
IsWord bs = AllByRecursion (λ b. is_space b ≡ false) bs

-- a line that begins with `SIP/` is a response's, and its version stands before the first space, or is the whole line
pub record IsResponseVersion (line version : List ℕ) : Type 0 where
  pub response : begins_with_sip line ≡ true
  pub is_word : IsWord version
  pub whole : (line ≡ version) ⊎ ((gap : ℕ) × (rest : List ℕ) × (is_space gap ≡ true) × (line ≡ version ++ gap ∷ rest))

-- in any other line the version is all that stands behind the second space
pub record IsRequestVersion (line version : List ℕ) : Type 0 where
  pub first : List ℕ
  pub second : List ℕ
  pub gap : ℕ
  pub second_gap : ℕ
  pub no_response : begins_with_sip line ≡ false
  pub parts : line ≡ first ++ (gap ∷ (second ++ (second_gap ∷ version)))
  pub first_is : IsWord first
  pub gap_is : is_space gap ≡ true
  pub second_is : IsWord second
  pub second_gap_is : is_space second_gap ≡ true

-- the version begins with `SIP/` and isn't `SIP/2.0`
pub record HasOtherVersion (line : List ℕ) : Type 0 where
  pub version : List ℕ
  pub place : IsResponseVersion line version ⊎ IsRequestVersion line version
  pub begins : begins_with_sip version ≡ true
  pub other : is_version version ≡ false

-- a status line by its form, with three digits that are no status
pub record HasBadStatus (line : List ℕ) : Type 0 where
  pub status : ℕ
  pub gap : ℕ
  pub second_gap : ℕ
  pub version : List ℕ
  pub reason : List ℕ
  pub parts : line ≡ version ++ (gap ∷ (status_text status ++ (second_gap ∷ reason)))
  pub gap_is : is_space gap ≡ true
  pub second_gap_is : is_space second_gap ≡ true
  pub version_is : is_version version ≡ true
  pub digits : status < 1000
  pub no_status : is_status status ≡ false

-- a fault of the first line: another version, no status, or else no start line at all
abbrev pub HasStartFault : List ℕ → Fault → Type 0
HasStartFault line BadVersion = HasOtherVersion line
HasStartFault line BadStatus = HasBadStatus line
HasStartFault line BadStart =
    ((start : StartText) → IsStartLine line start → ⊥) × (HasOtherVersion line → ⊥) × (HasBadStatus line → ⊥)
HasStartFault line _ = ⊥

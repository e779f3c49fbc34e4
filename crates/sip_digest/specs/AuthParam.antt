-- The parameters of credentials (RFC 3261 section 25.1: digest-response, auth-param).
use Rattle.std.specs.Prelude.{◌≡◌, ℕ, Bool, true, false, not, ◌&&◌, ◌⊎◌, List, [], ◌∷◌, ◌++◌, Option, Some, None, ◌==◌, if◌then◌else◌}
use Rattle.sip_lex.specs.Bytes.{is_token, trim}
use Rattle.sip_lex.specs.Cut.{Lacks, behind}
use Rattle.sip_lex.specs.Quoted.{IsQuoted}

pub record AuthParam : Type 0 where
  pub name : List ℕ
  -- without quotes and escapes
  pub value : List ℕ

-- what stands inside quotes, without each backslash that takes the next byte with it (quoted-pair)
abbrev pub unescaped : Bool → List ℕ → List ℕ
unescaped escaped [] = []
unescaped escaped (b ∷ bs) = if b == 92 && not escaped then unescaped true bs else b ∷ unescaped false bs

-- a token, or quoted text
abbrev pub IsAuthValue : (text value : List ℕ) → Type 0
IsAuthValue text value = ((is_token text ≡ true) × (value ≡ text)) ⊎ ((inside : List ℕ) × IsQuoted text inside [] × (value ≡ unescaped false inside))

-- a name, `=` and a value, with space round each
pub record IsElement (element : List ℕ) (param : AuthParam) : Type 0 where
  pub left : List ℕ
  pub right : List ℕ
  pub spelled : element ≡ left ++ 61 ∷ right
  -- the first `=` ends the name
  pub no_equals : Lacks 61 left
  pub named : trim left ≡ param.name
  pub token : is_token param.name ≡ true
  pub valued : IsAuthValue (trim right) param.value

-- a text begins with no element, up to its end or a comma
abbrev pub HasNoElement : List ℕ → Type 0
HasNoElement text = (element : List ℕ) (rest : Option (List ℕ)) (param : AuthParam) → text ≡ element ++ behind 44 rest → IsElement element param → ⊥

-- the parameters of a list, a comma between two, up to its end or its first fault; and whether it has no fault
abbrev pub IsListed : Option (List ℕ) → List AuthParam → Bool → Type 0
IsListed None params whole = (params ≡ []) × (whole ≡ true)
IsListed (Some text) [] whole = HasNoElement text × (whole ≡ false)
IsListed (Some text) (param ∷ params) whole = (element : List ℕ) × (rest : Option (List ℕ)) × (text ≡ element ++ behind 44 rest) × IsElement element param × IsListed rest params whole

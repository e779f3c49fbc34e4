-- The branch parameter of the proxy's own Via: it says which branch of which context a response
-- answers (RFC 3261 sections 8.1.1.7 and 16.6 step 8).
use Rattle.std.specs.Prelude.{◌≡◌, ◌<◌, ◌^◌, ℕ, List, ◌∷◌, ◌++◌, length, codes}
use Rattle.std.specs.Fmt.{decimal}
use Rattle.std.specs.List.{AllByRecursion}
use Rattle.sip_branch.specs.declared.branch.BranchName.{BranchName}
use Rattle.sip_lex.specs.HexPair.{hex_text}

abbrev pub cookie : List ℕ
cookie = codes "z9hG4bK"

-- the magic cookie, the key in hexadecimal digits, and three decimal numbers behind a dot each
abbrev pub branch_text : BranchName → List ℕ
branch_text b = cookie ++ (hex_text b.key ++ (46 ∷ (decimal b.instance ++ (46 ∷ (decimal b.context ++ (46 ∷ decimal b.target))))))

-- a key of sixteen bytes, and numbers of 32, 64 and 16 bits
pub record IsBranch (b : BranchName) : Type 0 where
  pub sixteen : length b.key ≡ 16
  pub bytes : AllByRecursion (λ byte. byte < 2 ^ 8) b.key
  pub instance : b.instance < 2 ^ 32
  pub context : b.context < 2 ^ 64
  pub target : b.target < 2 ^ 16

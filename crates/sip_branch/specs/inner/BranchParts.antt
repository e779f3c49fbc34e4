-- A branch parameter behind its cookie, as its parts between dots.
use Rattle.std.specs.Prelude.{ℕ, List, [], ◌∷◌, ◌++◌, take, drop, Option, Some, None, ◌==◌, if◌then◌else◌}
use Rattle.std.specs.Fmt.{decimal}
use Rattle.sip_lex.specs.Cut.{cut, is}
use Rattle.sip_branch.specs.declared.branch.SplitBranch.{SplitBranch}
use Rattle.sip_branch.specs.declared.branch.BranchName.{BranchName}
use Rattle.sip_lex.specs.HexPair.{hex_text}

pub record BranchParts : Type 0 where
  pub key : List ℕ
  pub instance : List ℕ
  pub context : List ℕ
  pub target : List ℕ

abbrev pub parts_text : BranchParts → List ℕ
parts_text p = p.key ++ (46 ∷ (p.instance ++ (46 ∷ (p.context ++ (46 ∷ p.target)))))

abbrev pub branch_parts : BranchName → BranchParts
branch_parts b = record { key = hex_text b.key; instance = decimal b.instance; context = decimal b.context; target = decimal b.target }

abbrev pub with_context : List ℕ → List ℕ → List ℕ × Option (List ℕ) → Option BranchParts
with_context key instance (context, None) = None
with_context key instance (context, Some target) = Some (record { key = key; instance = instance; context = context; target = target })

abbrev pub with_instance : List ℕ → List ℕ × Option (List ℕ) → Option BranchParts
with_instance key (instance, None) = None
with_instance key (instance, Some rest) = with_context key instance (cut (is 46) rest)

abbrev pub with_key : List ℕ → List ℕ → Option BranchParts
with_key key [] = None
with_key key (b ∷ rest) = if b == 46 then with_instance key (cut (is 46) rest) else None

-- thirty-two digits and a dot, what stands before the next two dots, and what behind these
abbrev pub parts_of : List ℕ → Option BranchParts
parts_of text = with_key (take 32 text) (drop 32 text)

-- parts in memory
abbrev pub view_parts : SplitBranch → BranchParts
view_parts p = record { key = p.key.now; instance = p.instance.now; context = p.context.now; target = p.target.now }

abbrev pub seen_parts : Option SplitBranch → Option BranchParts
seen_parts None = None
seen_parts (Some p) = Some (view_parts p)

-- Reading a script, against what scripts spell.
use Rattle.std.specs.Prelude.{◌≡◌, ◌↔◌, ℕ, List, [], ◌∷◌, Ok, Err}
use Rattle.fork_program.specs.Script.{Script, read_script}
use Rattle.fork_program.specs.Spelling.{Told, Spelling, preferred_said, depth_said, offers_said, challenges_said, IsSpelledAs, Spells}
use Rattle.fork_program.specs.Malformed.{IsMalformedAt}

-- a script is read of exactly the texts that spell it
abbrev pub ReadExactly : Type 0
ReadExactly = (text : List ℕ) (script : Script) → (read_script text ≡ Ok script) ↔ Spells text script

-- any other text is refused by exactly its first malformed line
abbrev pub RefusedByFirst : Type 0
RefusedByFirst = (text : List ℕ) (n : ℕ) → (read_script text ≡ Err n) ↔ IsMalformedAt text n

-- a text is spelled in one way
abbrev pub SpelledOnce : Type 0
SpelledOnce = (text : List ℕ) (a b : Spelling) → IsSpelledAs text a → IsSpelledAs text b → a ≡ b

-- the same events with the same contacts and the same challenges; how an answer's contacts stand among its challenges may
-- differ
abbrev pub TellTheSame : List Told → List Told → Type 0
TellTheSame [] [] = Unit {0}
TellTheSame [] (b ∷ bs) = ⊥
TellTheSame (a ∷ others) [] = ⊥
TellTheSame (a ∷ others) (b ∷ bs) =
    (a.event ≡ b.event)
    × (offers_said a.details ≡ offers_said b.details)
    × (challenges_said a.details ≡ challenges_said b.details)
    × TellTheSame others bs

-- the same but for that order, and for a rule that one leaves out and the other writes as the usual one
pub record SayTheSame (a b : Spelling) : Type 0 where
  pub kind : a.kind ≡ b.kind
  pub preferred : preferred_said a.prefer ≡ preferred_said b.prefer
  pub depth : depth_said a.depth ≡ depth_said b.depth
  pub targets : a.targets ≡ b.targets
  pub history : TellTheSame a.history b.history

-- exactly such texts are read as one script
abbrev pub ReadAlike : Type 0
ReadAlike =
    (text other : List ℕ) (a b : Spelling)
    → IsSpelledAs text a → IsSpelledAs other b → (read_script text ≡ read_script other) ↔ SayTheSame a b

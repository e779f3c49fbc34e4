-- A message in a stream (RFC 3261 sections 7, 18.3 and 20.14).
use Rattle.std.specs.Prelude.{◌≡◌, ℕ, List, [], ◌∷◌, ◌++◌, length}
use Rattle.std.specs.List.{AllByRecursion, flat_map}
use Rattle.sip_lex.specs.Line.{ended}
use Rattle.sip_text.specs.Grammar.{IsFull}
use Rattle.sip_framing.specs.declared.length.Heard.{Heard}
use Rattle.sip_framing.specs.declared.length.SaidLength.TheVariants.{Bytes}
use Rattle.sip_framing.specs.Length.{heard_after, unheard}

-- what was heard with more lines
abbrev pub heard_all : Heard → List (List ℕ) → Heard
heard_all heard [] = heard
heard_all heard (line ∷ lines) = heard_all (heard_after heard line) lines

-- A start line and header lines, each ended by CRLF, an empty line, and as many bytes as the Content-Length lines say.
pub record IsFramed (text : List ℕ) : Type 0 where
  pub line : List ℕ
  pub lines : List (List ℕ)
  pub body : List ℕ
  pub whole : text ≡ flat_map ended (line ∷ lines) ++ (ended [] ++ body)
  pub are_full : AllByRecursion IsFull (line ∷ lines)
  pub said : (heard_all unheard (line ∷ lines)).said ≡ Bytes (length body)

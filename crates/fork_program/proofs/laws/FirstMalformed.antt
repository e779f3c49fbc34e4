-- The line that a text read one line at a time is refused by is the first that is malformed.
use Rattle.fork_program.proofs.Common.{◌≡◌, ℕ, ◌+◌, List, [], ◌∷◌, ◌++◌, length, Option, Some, None, Result, sym, ◌∙◌, arith}
use Rattle.std.specs.List.{AllByRecursion}
use Rattle.fork_rank.specs.LineByLine.{drafted_lines}
use Rattle.fork_rank.proofs.laws.Lines.{MalformedFrom}
use Rattle.fork_program.specs.Malformed.{IsFirstMalformed}

none_some : {X : Type 0} {x : X} → None ≡ Some x → ⊥
none_some e = absurd cc

module _ {D L V : Type 0} {IsLine : L → Type 0} {line_text : L → List ℕ} {drafted_line : D → L → Option D} {read : ℕ → D → List (List ℕ) → Result V ℕ}
    {Begins : List L → Type 0} {Spells : List ℕ → V → Type 0} where
  -- where lines that may come begin something, and a line that begins something with them may come
  pub first_malformed : (draft : D) (text joined : List ℕ) (n : ℕ) → text ≡ joined → MalformedFrom IsLine IsLine line_text drafted_line read 1 draft joined n
      → ((lines : List L) (end : D) → AllByRecursion IsLine lines → drafted_lines drafted_line draft lines ≡ Some end → Begins lines)
      → ((lines : List L) (line : L) (end : D) → drafted_lines drafted_line draft lines ≡ Some end → Begins (lines ++ line ∷ []) → IsLine line × ((next : D) × (drafted_line end line ≡ Some next)))
      → ((value : V) → Spells text value → ⊥)
      → IsFirstMalformed L V line_text Begins Spells text n
  first_malformed draft text joined n same h begins next_due partial = record {
    lines = h.lines;
    rest = h.rest;
    number = let c : n ≡ 1 + length h.lines = h.counted in omega arith;
    text_is = same ∙ h.whole;
    begins = begins h.lines h.end h.right h.due;
    wrong = λ line more at b.
        let next = next_due h.lines line h.end h.due b in
        none_some (sym (h.none line more next.0 at) ∙ next.1.1);
    partial = partial;
  }

-- What was stored stays stored, so that a row that is first now, and had its answer before, was first before.
use Rattle.call_model.proofs.Common.{◌≡◌, ◌∙◌, ℕ, ap, refl, sym, subst, true, Option, Some, None, slice_get, option_map, stored_at, HasStored, Idle, Trying, Rung, Ended, Row, Rules, State, StoredAnswer, Table, stored_of, HasFirst}
use Rattle.fork_model.specs.Rank.{Before, Score}
use Rattle.fork_model.specs.Choice.{HasScore, score_of}
use Rattle.fork_model.specs.Steps.{GoesOn}
use Rattle.fork_model.specs.Table.{is_ended}

ended_of : (s : State) (a : StoredAnswer) → stored_of s ≡ Some a → is_ended s ≡ true
ended_of Idle a e = absurd cc
ended_of Trying a e = absurd cc
ended_of (Rung c) a e = absurd cc
ended_of (Ended end) a e = refl

stored_later : (t u : Table) → GoesOn t u → (n : ℕ) (a : StoredAnswer) → HasStored t n a → HasStored u n a
stored_later t u goes n a (row, there, stored) =
    let later = goes n row there in
    (later.0, later.1, ap stored_of (later.2.ended (ended_of row.state a stored)) ∙ stored)

has_score : (t : Table) (n : ℕ) (a : StoredAnswer) → HasStored t n a → HasScore t.rows n (score_of a)
has_score t n a (row, there, stored) = ap (λ (o : Option Row). option_map score_of (stored_at o)) there ∙ ap (option_map score_of) stored

-- a score is that of a stored answer
scored : (t : Table) (n : ℕ) (score : Score) → HasScore t.rows n score → (a : StoredAnswer) × HasStored t n a × (score_of a ≡ score)
scored t n score has = at_row (slice_get t.rows n) refl has
  where
    at_answer : (row : Row) → slice_get t.rows n ≡ Some row → (o : Option StoredAnswer) → stored_of row.state ≡ o → option_map score_of o ≡ Some score
        → (a : StoredAnswer) × HasStored t n a × (score_of a ≡ score)
    at_answer row there None is e = absurd cc
    at_answer row there (Some a) is e = (a, (row, there, is), let same : score_of a ≡ score = cc in same)

    at_row : (o : Option Row) → slice_get t.rows n ≡ o → option_map score_of (stored_at o) ≡ Some score → (a : StoredAnswer) × HasStored t n a × (score_of a ≡ score)
    at_row None there e = absurd cc
    at_row (Some row) there e = at_answer row there (stored_of row.state) refl e

score_later : (t u : Table) → GoesOn t u → (n : ℕ) (score : Score) → HasScore t.rows n score → HasScore u.rows n score
score_later t u goes n score has =
    let old = scored t n score has in
    has_score u n old.0 (stored_later t u goes n old.0 old.1) ∙ ap Some old.2

some_same : (a b : Score) → Some a ≡ Some b → a ≡ b
some_same a b e = cc

pub first_before : (t u : Table) → GoesOn t u → u.rules ≡ t.rules → (n : ℕ) (a : StoredAnswer) → HasStored t n a → HasFirst u n → HasFirst t n
first_before t u goes rules n a has (score, is) =
    let later : HasScore u.rows n (score_of a) = has_score u n a (stored_later t u goes n a has) in
    let same : score_of a ≡ score = some_same (score_of a) score (sym later ∙ is.stored) in
    let S : Score → Type 0 = λ s. HasScore t.rows n s in (
      score,
      record {
        stored = subst S same (has_score t n a has);
        first = λ m other h before. let B : Rules → Type 0 = λ r. Before r other score in is.first m other (score_later t u goes m other h) (subst B (sym rules) before);
      },
    )

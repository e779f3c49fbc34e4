-- The final answer is made of the response behind the choice of the table.
use Rattle.std.proofs.Common.{◌≡◌, ◌∙◌, ℕ, Bool, true, false, List, Option, Some, None, ap, refl, sym, subst, inl, inr, slice_get}
use Rattle.std.proofs.lemmas.Bool.{cond-false, cond-true}
use Rattle.std.specs.Option.{option_map}
use Rattle.fork_model.specs.Challenges.{challenge_list}
use Rattle.fork_model.specs.Choice.{Choice, Best, Only503, NoAnswer408, HasScore, score_of, stored_at}
use Rattle.fork_model.specs.Chosen.{HasFirst, IsChosen}
use Rattle.fork_model.specs.Log.{table_of}
use Rattle.fork_model.specs.Rank.{Score}
use Rattle.fork_model.specs.Sources.{HasStored}
use Rattle.fork_model.specs.Table.{Row, StoredAnswer, Table, stored_of}
use Rattle.sip_text.specs.Text.{MessageText}
use Rattle.sip_build.specs.declared.responses.OwnStatus.TheVariants as own
use Rattle.sip_build.specs.Upward.{upward_of}
use Rattle.call_model.specs.Behind.{KeepsAnswers}
use Rattle.call_model.specs.Built.{answer_in, best_of, final_of, generated, kept_at, kept_of, was_received}
use Rattle.call_model.specs.Call.{Call, nth_branch, rows_of}
use Rattle.call_model.specs.Step.{Turn}
use Rattle.call_laws.specs.Answers.{IsBestAnswer, IsFinalAnswer}
use Rattle.call_laws.specs.Came.{CamePosted}
use Rattle.call_laws.specs.Origins.{KeepsPosted}

-- a score is that of a stored answer
scored : (t : Table) (n : ℕ) (score : Score) → HasScore t.rows n score
    → (a : StoredAnswer) × HasStored t n a × (stored_at (slice_get t.rows n) ≡ Some a)
scored t n score has = at_row (slice_get t.rows n) refl has
  where
    at_answer : (row : Row) → slice_get t.rows n ≡ Some row → (o : Option StoredAnswer) → stored_of row.state ≡ o → option_map score_of o ≡ Some score
        → (a : StoredAnswer) × HasStored t n a × (stored_at (slice_get t.rows n) ≡ Some a)
    at_answer row there None is e = absurd cc
    at_answer row there (Some a) is e = (a, (row, there, is), ap stored_at there ∙ is)

    at_row : (o : Option Row) → slice_get t.rows n ≡ o → option_map score_of (stored_at o) ≡ Some score
        → (a : StoredAnswer) × HasStored t n a × (stored_at (slice_get t.rows n) ≡ Some a)
    at_row None there e = absurd cc
    at_row (Some row) there e = at_answer row there (stored_of row.state) refl e

module _ (turns : List Turn) (call : Call) (answers : KeepsAnswers call) (posted : KeepsPosted turns call) where
  assumed : (n : ℕ) (a : StoredAnswer) → stored_at (slice_get (rows_of call) n) ≡ Some a → a.received ≡ false → (o : Option MessageText)
      → best_of call n o ≡ generated call.opened own.RequestTimeout
  assumed n a stored none None = refl
  assumed n a stored none (Some m) = cond-false _ _ _ (ap was_received stored ∙ none)

  came : (n : ℕ) (a : StoredAnswer) → stored_at (slice_get (rows_of call) n) ≡ Some a → a.received ≡ true → (m : MessageText)
      → best_of call n (Some m) ≡ upward_of m (kept_of a) (challenge_list (rows_of call) (Best n))
  came n a stored is m =
      cond-true _ _ _ (ap was_received stored ∙ is)
      ∙ ap (λ (o : Option StoredAnswer). upward_of m (kept_at o) (challenge_list (rows_of call) (Best n))) stored

  best : (n : ℕ) (a : StoredAnswer) → HasStored (table_of call.log) n a → stored_at (slice_get (rows_of call) n) ≡ Some a → HasFirst (table_of call.log) n
      → (b : Bool) → a.received ≡ b → IsBestAnswer turns call n a (final_of call (Best n))
  best n a has stored first false is = inr (is, assumed n a stored is (answer_in (nth_branch call n)))
  best n a has stored first true is =
      let kept = answers n a has is first in
      let by = posted n a has is first in
      let same : by.0 ≡ kept.0 = let e : Some by.0 ≡ Some kept.0 = sym by.1 ∙ kept.1 in cc in
      let C : MessageText → Type 0 = λ m. CamePosted turns n a.arrival m in
      inl (is, kept.0, subst C same by.2, kept.2, ap (best_of call n) kept.1 ∙ came n a stored is kept.0)

  -- a received answer never goes up as a 408
  pub final_content : (choice : Choice) → IsChosen (table_of call.log) (Some choice) → IsFinalAnswer turns call choice (final_of call choice)
  final_content (Best n) chosen =
      let first : HasFirst (table_of call.log) n = (chosen.1.0, chosen.1.1) in
      let s = scored (table_of call.log) n chosen.1.0 chosen.1.1.stored in
      (s.0, s.1, best n s.0 s.1 s.2 first s.0.received refl)
  final_content (Only503 n) chosen = refl
  final_content NoAnswer408 chosen = refl

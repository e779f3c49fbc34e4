-- The line of the answer that goes up, by the first of those stored.
use Rattle.fork_listing.proofs.Common.{◌≡◌, ℕ, Bool, true, false, cond, eqb, List, Option, Some, None, refl, sym, ap, ◌∙◌, slice_get, option_map, eqb-true, eq-eqb, false≢true, Rules, Row, Score, Choice, Best, Only503, NoAnswer408, IsChoice}
use Rattle.fork_listing.proofs.Common.{stored_at, status_at, BestRef, IsBest, ListedTarget, Final, rows_of, final_of, IsChosen, IsNotChosen, arith}
use Rattle.std.specs.Option.{option_map_or}
use Rattle.fork_model.specs.Table.{StoredAnswer}
use Rattle.fork_model.specs.Choice as model
use Rattle.fork_tree.specs.Tree.{score_of_ref}
use Rattle.fork_listing.specs.inner.Stored.{final_of_best}

pub status_seen : (o : Option StoredAnswer) (score : Score) → option_map model.score_of o ≡ Some score → option_map_or (λ (answer : StoredAnswer). answer.status) o 408 ≡ score.status
status_seen o score e = grind arith

-- the choice that the first of those stored makes, and its line
abbrev Chosen : Rules → List Row → Option BestRef → Type 0
Chosen rules rows best = (choice : Choice) × IsChoice rules rows choice × (final_of_best best ≡ final_of rows choice)

chosen_by : (rules : Rules) (rows : List Row) (best : Option BestRef) → IsBest rules rows best → Chosen rules rows best
chosen_by rules rows None is = (NoAnswer408, is, refl)
chosen_by rules rows (Some first) is = at (eqb first.status 503) refl
  where
    line : ℕ → Final
    line s = record { status = s; number = Some first.no }

    status : status_at (slice_get rows first.no) ≡ first.status
    status = status_seen (stored_at (slice_get rows first.no)) (score_of_ref first) is.stored

    at : (b : Bool) → eqb first.status 503 ≡ b → Chosen rules rows (Some first)
    at true e =
        (Only503 first.no, (score_of_ref first, is, eqb-true first.status 503 e), ap (λ t. cond t (line 500) (line first.status)) e)
    at false e = (
      Best first.no,
      (score_of_ref first, is, (λ same. false≢true (sym e ∙ eq-eqb first.status 503 same))),
      ap (λ t. cond t (line 500) (line first.status)) e ∙ ap line (sym status),
    )

pub is_chosen : (rules : Rules) (targets : List ListedTarget) (best : Option BestRef) (last : Final) → IsBest rules (rows_of targets) best → last ≡ final_of_best best → IsChosen rules targets last
is_chosen rules targets best last is e = let h = chosen_by rules (rows_of targets) best is in (h.0, h.1, e ∙ h.2)

pub not_chosen : (rules : Rules) (targets : List ListedTarget) (best : Option BestRef) (last : Final) → IsBest rules (rows_of targets) best → (last ≡ final_of_best best → ⊥) → IsNotChosen rules targets last
not_chosen rules targets best last is e = let h = chosen_by rules (rows_of targets) best is in (h.0, h.1, (λ same. e (same ∙ sym h.2)))

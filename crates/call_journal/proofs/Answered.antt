-- The words of an answer, part behind part.
use Rattle.std.proofs.Common.{◌≡◌, ◌∙◌, ℕ, List, ◌++◌, ap, append_assoc, codes, length}
use Rattle.std.specs.Prelude.{slice_get}
use Rattle.fork_model.specs.Table.{Rules, Table}
use Rattle.fork_model.specs.Choice.{status_at}
use Rattle.call_journal.specs.Why.{answer_text, others_text, reason, source_text, stored_statuses}

regrouped : (old a b c : List ℕ) → ((old ++ a) ++ b) ++ c ≡ old ++ (a ++ (b ++ c))
regrouped old a b c = simp append_assoc

pub answered : (t : Table) (n : ℕ) (old x y new : List ℕ) (rules : Rules) (statuses : List ℕ) (status : ℕ)
    → x ≡ old ++ source_text t.rows n → y ≡ x ++ codes ", "
    → rules ≡ t.rules → statuses ≡ stored_statuses t.rows → status ≡ status_at (slice_get t.rows n)
    → new ≡ y ++ (reason rules statuses status ++ others_text (length statuses)) → new ≡ old ++ answer_text t n
answered t n old x y new rules statuses status p q e f g is =
    let words : List ℕ = reason t.rules (stored_statuses t.rows) (status_at (slice_get t.rows n)) ++ others_text (length (stored_statuses t.rows)) in
    is
    ∙ (λ i. y ++ (reason (e i) (f i) (g i) ++ others_text (length (f i))))
    ∙ ap (λ (v : List ℕ). v ++ words) (q ∙ ap (λ (v : List ℕ). v ++ codes ", ") p)
    ∙ regrouped old (source_text t.rows n) (codes ", ") words

pub replaced : (t : Table) (n : ℕ) (old x new : List ℕ) → x ≡ old ++ codes " in place of 503" → new ≡ x ++ answer_text t n
    → new ≡ old ++ (codes " in place of 503" ++ answer_text t n)
replaced t n old x new p is =
    is ∙ ap (λ (v : List ℕ). v ++ answer_text t n) p ∙ append_assoc old (codes " in place of 503") (answer_text t n)

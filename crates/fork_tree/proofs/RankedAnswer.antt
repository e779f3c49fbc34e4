-- What is kept of the tree is the best of its rows by number.
use Rattle.fork_tree.proofs.Common.{◌≡◌, ℕ, ◌+◌, true, false, List, [], ◌∷◌, slice_get, Option, Some, None, refl, ap, sym, subst, ◌∙◌, arith, inl, inr, if◌then◌else◌, option_map, Row, Rules, stored_of, Score, RanksBefore, rank_of, HasScore, score_of}
use Rattle.fork_tree.proofs.Common.{stored_at, RankedAnswer, State, Ended, Stored, NodePlace, has_ended, plain_state, Cell, Entry, same, find, path_of, row_at, rows_of, HasKept, IsKept, best_of, AreListed, AreRanked, kept_of, IsBest, score_of_ref, there_at}
use Rattle.fork_tree.proofs.Common.{common_steps, rules}
use Rattle.fork_model.specs.Rank.{Before}
use Rattle.fork_tree.proofs.Placed.{IsRowAt, row_got, get_row}

pub kept_none : (rules : Rules) (n : ℕ) (s : State) → has_ended s ≡ false → kept_of rules n s ≡ None
kept_none rules n s h = grind arith

-- ---- the rows that have not ended

pub stored_state : (rules : Rules) (n : ℕ) (s : State) (score : Score) → option_map score_of (stored_of (plain_state s)) ≡ Some score
    → (k : RankedAnswer) × (kept_of rules n s ≡ Some k) × (k.rank ≡ rank_of rules score)
stored_state rules n (Ended (Stored status arrival received)) score h =
    let e : record { status = status; arrival = arrival } ≡ score = cc in
    (record { best = record { no = n; status = status; arrival = arrival }; rank = rank_of rules (record { status = status; arrival = arrival }) }, refl, ap (rank_of rules) e)
stored_state rules n s score h = absurd cc

pub ranked_at : (rules : Rules) (root : List Entry) (p : List ℕ) (c : Cell) → AreRanked rules root → find root p ≡ Some c → c.standing.answer ≡ kept_of rules c.number c.standing.state
ranked_at rules [] p c r h = absurd cc
ranked_at rules (e ∷ es) p c r h =
    elim (same e.path p) as (λ t. (if t then Some e.cell else find es p) ≡ Some c → c.standing.answer ≡ kept_of rules c.number c.standing.state) [
      | true ↦ (λ k. (let at : e.cell ≡ c = cc in let P : Cell → Type 0 = λ x. x.standing.answer ≡ kept_of rules x.number x.standing.state in subst P at r.0))
      | false ↦ (λ k. ranked_at rules es p c r.1 k)
    ] h

pub found_kept : (root : List Entry) (p : List ℕ) (c : Cell) (k : RankedAnswer) → find root p ≡ Some c → c.standing.answer ≡ Some k → HasKept root k
found_kept [] p c k h a = absurd cc
found_kept (e ∷ es) p c k h a =
    elim (same e.path p) as (λ t. (if t then Some e.cell else find es p) ≡ Some c → HasKept (e ∷ es) k) [
      | true ↦ (λ g. (let at : e.cell ≡ c = cc in inl (ap (λ (x : Cell). x.standing.answer) at ∙ a)))
      | false ↦ (λ g. inr (found_kept es p c k g a))
    ] h

abbrev pub ScoreKept : Rules → List Entry → Score → Type 0
ScoreKept rules root score = (k : RankedAnswer) × HasKept root k × (k.rank ≡ rank_of rules score)

-- a row's stored answer is that of its node
score_kept : (rules : Rules) (all : List NodePlace) (root : List Entry) (m : ℕ) (score : Score) → AreRanked rules root → HasScore (rows_of all root) m score → ScoreKept rules root score
score_kept rules all root m score ranked h = go (slice_get (rows_of all root) m) refl h
  where
    cell : (p : NodePlace) (path : List ℕ) (o : Option Cell) → find root path ≡ o → option_map score_of (stored_of (row_at p o).state) ≡ Some score → ScoreKept rules root score
    cell p path None e h = absurd cc
    cell p path (Some c) e h =
        let found = stored_state rules c.number c.standing.state score h in
        (found.0, found_kept root path c found.0 e (ranked_at rules root path c ranked e ∙ found.1), found.2)

    go : (o : Option Row) → slice_get (rows_of all root) m ≡ o → option_map score_of (stored_at o) ≡ Some score → ScoreKept rules root score
    go None e h = absurd cc
    go (Some r) e h =
        let at : IsRowAt all root 0 m all r = row_got all root 0 m all r e in
        cell at.0 (path_of all (0 + m)) (find root (path_of all (0 + m))) refl (sym (ap (λ (x : Row). option_map score_of (stored_of x.state)) at.2) ∙ h)

-- and the other way
abbrev pub KeptScore : Rules → List Row → RankedAnswer → Type 0
KeptScore rules rows k = HasScore rows k.best.no (score_of_ref k.best) × (k.rank ≡ rank_of rules (score_of_ref k.best))

pub state_stored : (rules : Rules) (n : ℕ) (s : State) (k : RankedAnswer) → kept_of rules n s ≡ Some k
    → (k.best.no ≡ n) × (option_map score_of (stored_of (plain_state s)) ≡ Some (score_of_ref k.best)) × (k.rank ≡ rank_of rules (score_of_ref k.best))
state_stored rules n s k h = grind arith

pub kept_score : (rules : Rules) (all : List NodePlace) (root es : List Entry) (k : RankedAnswer) → AreListed all root es → AreRanked rules es → HasKept es k → KeptScore rules (rows_of all root) k
kept_score rules all root [] k l r h = absurd h
kept_score rules all root (e ∷ es) k l r h =
    elim h [
      | inl a ↦ own (state_stored rules e.cell.number e.cell.standing.state k (sym r.0 ∙ a)) (there_at all e.cell.number l.0.known)
      | inr t ↦ kept_score rules all root es k l.1 r.1 t
    ]
  where
    own : (k.best.no ≡ e.cell.number) × (option_map score_of (stored_of (plain_state e.cell.standing.state)) ≡ Some (score_of_ref k.best)) × (k.rank ≡ rank_of rules (score_of_ref k.best))
        → (p : NodePlace) × (slice_get all e.cell.number ≡ Some p) → KeptScore rules (rows_of all root) k
    own s p =
        let row : slice_get (rows_of all root) e.cell.number ≡ Some (row_at p.0 (find root (path_of all (0 + e.cell.number)))) = get_row all root 0 e.cell.number all p.0 p.1 in
        let at : 0 + e.cell.number ≡ e.cell.number = omega arith in (
          ap (λ n. option_map score_of (stored_at (slice_get (rows_of all root) n))) s.0 ∙ ap (λ o. option_map score_of (stored_at o)) row
              ∙ ap (λ n. option_map score_of (stored_of (row_at p.0 (find root (path_of all n))).state)) at
              ∙ ap (λ o. option_map score_of (stored_of (row_at p.0 o).state)) l.0.found ∙ s.1,
          s.2,
        )

pub before_ranks : (rules : Rules) (a b : Score) → Before rules a b → RanksBefore (rank_of rules a) (rank_of rules b)
unfolding Before
before_ranks rules a b h = h

pub kept_is_best : (rules : Rules) (rows : List Row) (all : List NodePlace) (root : List Entry) (kept : Option RankedAnswer) → rows_of all root ≡ rows
    → AreListed all root root → AreRanked rules root → IsKept root kept → IsBest rules rows (best_of kept)
kept_is_best rules rows all root kept v listed ranked h = grind (arith, common_steps, score_kept, kept_score, before_ranks)

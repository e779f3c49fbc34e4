-- What a node keeps is the best, and its count that, of the rows at or below its number.
use Rattle.fork_tree.proofs.Common.{◌≡◌, ℕ, suc, ◌+◌, ◌<◌, ◌&&◌, inl, inr, Bool, true, false, IsTrue, not, List, [], ◌∷◌, length, Option, Some, None, slice_get, refl, ap, sym, subst, ◌∙◌, arith, if◌then◌else◌, is_some, option_map, Row, Rules}
use Rattle.fork_tree.proofs.Common.{is_ended, stored_of, Rank, Score, RanksBefore, rank_of, HasScore, score_of, stored_at, RankedAnswer, Summary, NodePlace, has_ended, Cell, Entry, find, path_of, row_at, rows_of, IsPlaced, AreOlder, HasKept, IsKept, best_of}
use Rattle.fork_tree.proofs.Common.{open_of, AreListed, AreRanked, IsTree, Tree, score_of_ref, leads, lies_below, open_where, open_below, stripped, put_under, under, common_steps, rules}
use Rattle.fork_model.specs.Rank.{Before}
use Rattle.fork_tree.specs.Below.{IsBestBelow, IsSubtree}
use Rattle.fork_tree.proofs.Traces.{path_below}
use Rattle.fork_tree.proofs.Placed.{IsRowAt, row_got, ended_plain}
use Rattle.fork_tree.proofs.Counts.{one, passing, passing_rows, passing_agree, rows_length}
use Rattle.fork_tree.proofs.RankedAnswer.{ScoreKept, KeptScore, stored_state, state_stored, ranked_at, found_kept, kept_score, before_ranks}
use Rattle.fork_tree.proofs.Unders.{stripped_here, stripped_is, find_under}
use Rattle.fork_tree.proofs.Chains.{up_of, lies_same, GoesOn, leads_on, on_leads}

-- ---- the walk by parents

pub further_there : (all : List NodePlace) (root node : List Entry) (n m : ℕ) (p : NodePlace) → AreOlder all → IsPlaced all root → n < length all → slice_get all n ≡ Some p → p.parent ≡ Some m
    → node ≡ under (path_of all m) root → IsTrue (is_some (find node (p.group ∷ p.place ∷ [])))
further_there all root node n m p older placed lt is up e = grind (arith, find_under, path_below)

-- ---- the best

score_below : (rules : Rules) (all : List NodePlace) (root : List Entry) (n m : ℕ) (score : Score) → AreOlder all → AreRanked rules root → IsTrue (lies_below (rows_of all root) n m)
    → HasScore (rows_of all root) m score → ScoreKept rules (under (path_of all n) root) score
score_below rules all root n m score older ranked below h = go (slice_get (rows_of all root) m) refl h
  where
    on : GoesOn all n m
    on = leads_on all n m m older (sym (lies_same all root n m) ∙ below)

    cell : (p : NodePlace) (o : Option Cell) → find root (path_of all m) ≡ o → option_map score_of (stored_of (row_at p o).state) ≡ Some score → ScoreKept rules (under (path_of all n) root) score
    cell p None e h = absurd cc
    cell p (Some c) e h =
        let found = stored_state rules c.number c.standing.state score h in (
          found.0,
          found_kept (under (path_of all n) root) on.0 c found.0 (find_under (path_of all n) root on.0 ∙ ap (find root) (sym on.1) ∙ e)
              (ranked_at rules root (path_of all m) c ranked e ∙ found.1),
          found.2,
        )

    go : (o : Option Row) → slice_get (rows_of all root) m ≡ o → option_map score_of (stored_at o) ≡ Some score → ScoreKept rules (under (path_of all n) root) score
    go None e h = absurd cc
    go (Some r) e h =
        let found : IsRowAt all root 0 m all r = row_got all root 0 m all r e in
        let at : 0 + m ≡ m = omega arith in
        cell found.0 (find root (path_of all m)) refl
        (sym (ap (λ (x : Row). option_map score_of (stored_of x.state)) (found.2 ∙ ap (λ k. row_at found.0 (find root (path_of all k))) at)) ∙ h)

record KeptBelow (rules : Rules) (rows : List Row) (n : ℕ) (k : RankedAnswer) : Type 0 where
  pub below : IsTrue (lies_below rows n k.best.no)
  pub score : KeptScore rules rows k

kept_below : (rules : Rules) (all : List NodePlace) (root es : List Entry) (n : ℕ) (k : RankedAnswer) → AreOlder all → IsPlaced all root → n < length all → AreListed all root es → AreRanked rules es
    → HasKept (under (path_of all n) es) k → KeptBelow rules (rows_of all root) n k
kept_below rules all root [] n k older placed lt l r h = absurd h
kept_below rules all root (e ∷ es) n k older placed lt l r h = go (stripped (path_of all n) e.path) refl h (λ t. kept_below rules all root es n k older placed lt l.1 r.1 t)
  where
    own : (q : List ℕ) → stripped (path_of all n) e.path ≡ Some q → e.cell.standing.answer ≡ Some k → KeptBelow rules (rows_of all root) n k
    own q f a =
        let number : k.best.no ≡ e.cell.number = (state_stored rules e.cell.number e.cell.standing.state k (sym r.0 ∙ a)).0 in
        let yes : lies_below (rows_of all root) n e.cell.number ≡ true =
        lies_same all root n e.cell.number
        ∙ on_leads all root n e.cell.number e.cell.number older placed lt l.0.known (omega arith) (q, sym l.0.path ∙ stripped_is (path_of all n) e.path q f) in
        let B : Bool → Type 0 = λ b. IsTrue b in
        record { below = subst B (sym (ap (lies_below (rows_of all root) n) number ∙ yes)) cc; score = kept_score rules all root (e ∷ es) k l r (inl a) }

    go : (o : Option (List ℕ)) → stripped (path_of all n) e.path ≡ o → HasKept (put_under o e (under (path_of all n) es)) k
        → (HasKept (under (path_of all n) es) k → KeptBelow rules (rows_of all root) n k) → KeptBelow rules (rows_of all root) n k
    go None f h again = again h
    go (Some q) f h again = elim h [ inl a ↦ own q f a | inr t ↦ again t ]

best_below : (rules : Rules) (all : List NodePlace) (root : List Entry) (n : ℕ) (kept : Option RankedAnswer) → AreOlder all → IsPlaced all root → n < length all → AreListed all root root
    → AreRanked rules root → IsKept (under (path_of all n) root) kept → IsBestBelow rules (rows_of all root) n (best_of kept)
best_below rules all root n None older placed lt listed ranked k = grind (arith, common_steps, score_below)
best_below rules all root n (Some b) older placed lt listed ranked k =
    let own : KeptBelow rules (rows_of all root) n b = kept_below rules all root root n b older placed lt listed ranked k.stored in
    record {
      below = own.below;
      stored = own.score.0;
      first = λ m other below s before.
          (let found = score_below rules all root n m other older ranked below s in
          k.first found.0 found.1 (ranks found.0.rank b.rank other found.2 own.score.1 before));
    }
  where
    ranks : (x y : Rank) (other : Score) → x ≡ rank_of rules other → y ≡ rank_of rules (score_of_ref b.best) → Before rules other (score_of_ref b.best) → RanksBefore x y
    ranks x y other e f before = rw (e, f) (before_ranks rules other (score_of_ref b.best) before)

-- ---- the count

abbrev open_cell : List NodePlace → ℕ → Cell → Bool
open_cell all n c = leads (up_of all) n c.number c.number && not (has_ended c.standing.state)

opens_below : (all : List NodePlace) (root es : List Entry) (n : ℕ) → AreOlder all → IsPlaced all root → n < length all → AreListed all root es
    → open_of (under (path_of all n) es) ≡ passing (open_cell all n) es
opens_below all root [] n older placed lt l = refl
opens_below all root (e ∷ es) n older placed lt l = go (stripped (path_of all n) e.path) refl (opens_below all root es n older placed lt l.1)
  where
    counted : (b : Bool) (x y : ℕ) → x ≡ y → (if b then 0 else 1) + x ≡ one (not b) + y
    counted true x y h = omega (arith, h)
    counted false x y h = omega (arith, h)

    not_there : stripped (path_of all n) e.path ≡ None → leads (up_of all) n e.cell.number e.cell.number ≡ false
    not_there f =
        elim (leads (up_of all) n e.cell.number e.cell.number) as (λ t. leads (up_of all) n e.cell.number e.cell.number ≡ t → t ≡ false) [
          | true ↦ (λ k.
              let on = leads_on all n e.cell.number e.cell.number older k in
              let bad : None ≡ Some on.0 = sym f ∙ ap (stripped (path_of all n)) (l.0.path ∙ on.1) ∙ stripped_here (path_of all n) on.0 in absurd cc)
          | false ↦ (λ k. refl)
        ] refl

    go : (o : Option (List ℕ)) → stripped (path_of all n) e.path ≡ o → open_of (under (path_of all n) es) ≡ passing (open_cell all n) es
        → open_of (put_under o e (under (path_of all n) es)) ≡ one (leads (up_of all) n e.cell.number e.cell.number && not (has_ended e.cell.standing.state)) + passing (open_cell all n) es
    go None f rest =
        let none : one (leads (up_of all) n e.cell.number e.cell.number && not (has_ended e.cell.standing.state)) ≡ 0 =
        ap (λ (b : Bool). one (b && not (has_ended e.cell.standing.state))) (not_there f) in
        omega (arith, rest, none)
    go (Some q) f rest =
        counted (has_ended e.cell.standing.state) (open_of (under (path_of all n) es)) (passing (open_cell all n) es) rest
        ∙ sym (ap (λ (b : Bool). one (b && not (has_ended e.cell.standing.state)) + passing (open_cell all n) es)
        (on_leads all root n e.cell.number e.cell.number older placed lt l.0.known (omega arith) (q, sym l.0.path ∙ stripped_is (path_of all n) e.path q f)))

where_passing : (f g : ℕ → Bool) (k : ℕ) (rows : List Row) → ((i : ℕ) → f i ≡ g i) → open_where f k rows ≡ passing_rows (λ i s. g i && not (is_ended s)) k rows
where_passing f g k [] h = refl
where_passing f g k (row ∷ rows) h = grind (arith, where_passing f g (suc k) rows h)

pub count_below : (all : List NodePlace) (root : List Entry) (n : ℕ) → AreOlder all → IsPlaced all root → n < length all → AreListed all root root → length root ≡ length all
    → open_of (under (path_of all n) root) ≡ open_below (rows_of all root) n
count_below all root n older placed lt listed sized =
    opens_below all root root n older placed lt listed
    ∙ passing_agree (open_cell all n) (λ i s. leads (up_of all) n i i && not (is_ended s)) all root
    (λ c. ap (λ (b : Bool). leads (up_of all) n c.number c.number && not b) (ended_plain c.standing.state)) placed sized
    ∙ sym (where_passing (lies_below (rows_of all root) n) (λ i. leads (up_of all) n i i) 0 (rows_of all root) (lies_same all root n))

-- ---- the node

pub is_subtree : (rules : Rules) (all : List NodePlace) (root node : List Entry) (t : Summary) (now : Tree) (n : ℕ) → record { rules = rules; rows = rows_of all root } ≡ now
    → IsTree rules all root t → n < length all → node ≡ under (path_of all n) root → IsSubtree now n node
is_subtree rules all root node t now n v was lt e = grind (arith, rows_length, best_below, count_below)

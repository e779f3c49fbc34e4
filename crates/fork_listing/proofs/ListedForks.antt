-- The listing of every fork is right.
use Rattle.fork_listing.proofs.Common.{◌≡◌, ◌≢◌, ℕ, zero, suc, ◌≤◌, true, false, List, [], ◌∷◌, ◌++◌, map, length, Option, Some, None, refl, sym, ap, subst, ◌∙◌, arith, inl, inr, slice_get, option_and_then, option_map, AllByRecursion, Rules, Row}
use Rattle.fork_listing.proofs.Common.{Table, State, most_targets, Score, Before, Choice, Best, Only503, NoAnswer408, IsChoice, IsFirst, stored_at, status_at, Core, opening_core, core_after, End, ListedTarget, Ranked, Verdict, Line, TargetLine, RankLine}
use Rattle.fork_listing.proofs.Common.{most_arrival, most_number, arrival_of, ended_at, IsParent, rows_of, score_of, score_in, score_at, RanksBehind, final_of, IsChosen, IsRanking, Listing, AreInOrder, AreListed, IsRight, verdict_of, targets_of}
use Rattle.fork_listing.proofs.Common.{listing_of, IsListingOf, IsStatus, IsEnd, IsNumberOrNone, IsTargetLine, IsRankLine, IsFinalLine, IsLine, IsListing, IsRightText, AreArrivals, HasScore, some_same, none_some, slice_get_within, false≢true}
use Rattle.fork_listing.proofs.Common.{get_or_from_slice_get, is_succeeded, common_steps, rules}
use Rattle.std.proofs.lemmas.List.Folds.{list_any_at}
use Rattle.fork_model.specs.Table.{stored_of, is_accepted}
use Rattle.fork_model.specs.Choice as model
use Rattle.fork_model.specs.Steps.{most_taken}
use Rattle.fork_model.proofs.laws.ContactLemmas.{taken_bounded}
use Rattle.fork_model.proofs.laws.OrderLemmas.{Before-total}
use Rattle.fork_tree.specs.declared.row.End.TheVariants as line_end
use Rattle.fork_listing.specs.Ranks.{rank_before}
use Rattle.fork_rank.proofs.laws.Lines as texts
use Rattle.fork_context.specs.Led.{AreRules, IsLedTo}
use Rattle.fork_listing.specs.Accepted.{ListingsAreRight, AppendsRight}
use Rattle.fork_listing.proofs.Finals.{status_seen}
use Rattle.fork_listing.proofs.Meanings.{same_score}
use Rattle.fork_listing.proofs.Growing.{IsKept}
use Rattle.fork_listing.proofs.GrownTables.{seen, line_get, row_listed, length-targets, IsGrownTable, history_grows}
use Rattle.fork_listing.proofs.AcceptedTexts.{scored_at, score_ends}

-- ---- a table whose rows stand as they may

record IsFit (t : Table) (at : ℕ) : Type 0 where
  grown : IsGrownTable t at
  soon : at ≤ most_taken
  some : 1 ≤ length t.rows
  few : length t.rows ≤ most_targets
  rules : AreRules t.rules
  arrivals : AreArrivals t.rows at

-- the score of a row is that of its line
state_score : (state : State) → option_map model.score_of (stored_of state) ≡ score_in (seen state)
state_score state = grind arith

pub row_score : (rows : List Row) (n : ℕ) → option_map model.score_of (stored_at (slice_get rows n)) ≡ score_at (targets_of rows) n
row_score rows n = grind (arith, line_get)

-- the rows that the lines tell of have the same scores
lines_score : (rows : List Row) (n : ℕ) → option_map model.score_of (stored_at (slice_get rows n)) ≡ option_map model.score_of (stored_at (slice_get (rows_of (targets_of rows)) n))
lines_score rows n = row_score rows n ∙ sym (same_score (targets_of rows) n)

same_first : (rules : Rules) (rows : List Row) (n : ℕ) (score : Score) → IsFirst rules rows n score → IsFirst rules (rows_of (targets_of rows)) n score
same_first rules rows n score h = record {
  stored = sym (lines_score rows n) ∙ h.stored;
  first = λ m other is. h.first m other (lines_score rows m ∙ is);
}

same_choice : (rules : Rules) (rows : List Row) (choice : Choice) → IsChoice rules rows choice → IsChoice rules (rows_of (targets_of rows)) choice
same_choice rules rows (Best n) h = (h.0, same_first rules rows n h.0 h.1, h.2)
same_choice rules rows (Only503 n) h = (h.0, same_first rules rows n h.0 h.1, h.2)
same_choice rules rows NoAnswer408 h = λ m score is. h m score (lines_score rows m ∙ is)

same_final : (rules : Rules) (rows : List Row) (choice : Choice) → IsChoice rules rows choice → final_of rows choice ≡ final_of (rows_of (targets_of rows)) choice
same_final rules rows (Best n) h = grind (arith, common_steps, same_first rules rows n h.0 h.1, status_seen)
same_final rules rows (Only503 n) h = refl
same_final rules rows NoAnswer408 h = refl

pub is_chosen : (t : Table) (choice : Choice) → IsChoice t.rules t.rows choice → IsChosen t.rules (targets_of t.rows) (final_of t.rows choice)
is_chosen t choice chosen = (choice, same_choice t.rules t.rows choice chosen, same_final t.rules t.rows choice chosen)

-- where the answers arrived apart, the ranking is in order, and has each

module _ (t : Table) (at : ℕ) (ranks : List Ranked) (choice : Choice) (arrivals : AreArrivals t.rows at)
    (ranking : IsRanking t.rules (targets_of t.rows) ranks) where
  next_behind : (j : ℕ) (a b : Ranked) → slice_get ranks j ≡ Some a → slice_get ranks (suc j) ≡ Some b → Before t.rules (score_of a) (score_of b)
  next_behind j a b x y =
      elim (Before-total t.rules (score_of a) (score_of b) apart) [
        | inl before ↦ before
        | inr behind ↦ absurd (ranking.ordered j (suc j) a b (omega arith) x y behind)
      ]
    where
      stored : (k : ℕ) (r : Ranked) → slice_get ranks k ≡ Some r → HasScore t.rows r.number (score_of r)
      stored k r is = row_score t.rows r.number ∙ ranking.stored k r is

      apart : a.arrival ≢ b.arrival
      apart same =
          let numbers = arrivals.apart a.number b.number (score_of a) (score_of b) (stored j a x) (stored (suc j) b y) same in
          omega (arith, ranking.once j (suc j) a b x y numbers)

  behind : (k : ℕ) (ranked : Ranked) → slice_get ranks k ≡ Some ranked → RanksBehind t.rules (rank_before ranks k) ranked
  behind zero ranked is = tt
  behind (suc j) ranked is = go (slice_get ranks j) refl
    where
      go : (o : Option Ranked) → slice_get ranks j ≡ o → RanksBehind t.rules o ranked
      go None none = tt
      go (Some before) some = next_behind j before ranked some is

  pub in_order : AreInOrder (listing_of t ranks choice)
  in_order = λ k lt ranked is. record { stored = ranking.stored k ranked is; behind = behind k ranked is }

  pub all_listed : AreListed (listing_of t ranks choice)
  all_listed = λ n lt score is. ranking.all n score is

-- ---- its lines

accepted_seen : (state : State) (a : ℕ) → seen state ≡ line_end.Accepted a → is_accepted state ≡ true
accepted_seen state a e = grind arith

none_accepted : (rows : List Row) → is_succeeded rows ≡ false → (n : ℕ) (target : ListedTarget) → slice_get (targets_of rows) n ≡ Some target → (a : ℕ) → target.end ≡ line_end.Accepted a → ⊥
none_accepted rows failed n target is a e =
    let r = row_listed rows n target is in
    grind (arith, common_steps, get_or_from_slice_get rows n r.0 r.0 r.1, slice_get_within rows n r.0 r.1, accepted_seen, false≢true, list_any_at)

end_line : (end : End) → IsKept end → ((a : ℕ) → arrival_of end ≡ Some a → a ≤ most_arrival) → ((a : ℕ) → end ≡ line_end.Accepted a → ⊥) → IsEnd end
end_line (line_end.Stored status arrival received) kept arrives none = (kept.0, arrives arrival refl, kept.1)
end_line (line_end.Taken arrival) kept arrives none = arrives arrival refl
end_line (line_end.Silent arrival) kept arrives none = arrives arrival refl
end_line line_end.Never kept arrives none = tt
end_line (line_end.Accepted arrival) kept arrives none = none arrival refl

all_map : {X : Type 0} (f : X → Line) (xs : List X) → ((n : ℕ) (x : X) → slice_get xs n ≡ Some x → IsLine (f x)) → AllByRecursion IsLine (map f xs)
all_map f [] each = tt
all_map f (x ∷ xs) each = (each 0 x refl, all_map f xs (λ n y is. each (suc n) y is))

module _ (t : Table) (at : ℕ) (ranks : List Ranked) (choice : Choice) (fit : IsFit t at) (ranking : IsRanking t.rules (targets_of t.rows) ranks) (chosen : IsChoice t.rules t.rows choice) (failed : is_succeeded t.rows ≡ false) where
  abbrev targets : List ListedTarget
  targets = targets_of t.rows

  small : (n : ℕ) (target : ListedTarget) → slice_get targets n ≡ Some target → n ≤ most_number
  small n target is =
      omega (arith, slice_get_within targets n target is, length-targets 0 t.rows, fit.few)

  soon : (n a : ℕ) → ended_at targets n ≡ Some a → a ≤ most_arrival
  soon n a e = omega (arith, fit.grown.past n a e, fit.soon)

  parent_line : (n : ℕ) (parent : Option ℕ) → n ≤ most_number → IsParent targets n parent → IsNumberOrNone parent
  parent_line n None le h = tt
  parent_line n (Some p) le h = omega (arith, h.0)

  end_of_line : (n : ℕ) (target : ListedTarget) → slice_get targets n ≡ Some target → IsEnd target.end
  end_of_line n target is =
      end_line target.end (fit.grown.kept n target is).1
      (λ a e. soon n a (ap (option_and_then (λ (x : ListedTarget). arrival_of x.end)) is ∙ e)) (none_accepted t.rows failed n target is)

  target_line : (n : ℕ) (target : ListedTarget) → slice_get targets n ≡ Some target → IsTargetLine target
  target_line n target is =
      let h = fit.grown.placed n target is in
      let number : target.number ≡ n = h.number in
      let le : n ≤ most_number = small n target is in
      (omega arith, parent_line n target.parent le h.parent, (fit.grown.kept n target is).0, end_of_line n target is)

  score_line : (n : ℕ) (score : Score) → score_at targets n ≡ Some score → IsStatus score.status × (score.arrival ≤ most_arrival) × (n ≤ most_number)
  score_line n score e =
      let s = scored_at targets n score e in
      (status s.0.end (end_of_line n s.0 s.1) s.2, soon n score.arrival (score_ends targets n score e), small n s.0 s.1)
    where
      status : (end : End) → IsEnd end → score_in end ≡ Some score → IsStatus score.status
      status (line_end.Stored s arrival received) h e = subst (λ (x : Score). IsStatus x.status) (some_same e) h.0
      status end h e = absurd (none_some e)

  rank_line : (k : ℕ) (ranked : Ranked) → slice_get ranks k ≡ Some ranked → IsRankLine ranked
  rank_line k ranked is =
      let s = score_line ranked.number (score_of ranked) (ranking.stored k ranked is) in
      (s.0, s.2, s.1)

  final_line : (c : Choice) → IsChoice t.rules t.rows c → IsFinalLine (final_of t.rows c)
  final_line (Best n) h =
      let s = score_line n h.0 (sym (row_score t.rows n) ∙ h.1.stored) in
      let status : status_at (slice_get t.rows n) ≡ h.0.status = status_seen (stored_at (slice_get t.rows n)) h.0 h.1.stored in
      (subst IsStatus (sym status) s.0, s.2)
  final_line (Only503 n) h =
      let s = score_line n h.0 (sym (row_score t.rows n) ∙ h.1.stored) in
      ((omega arith, omega arith), s.2)
  final_line NoAnswer408 h = ((omega arith, omega arith), tt)

  is_listing : IsListing (listing_of t ranks choice)
  is_listing = record {
    lines = (
      (fit.some, fit.few),
      (
        fit.rules.preferred,
        (
          fit.rules.depth,
          texts.all_append IsLine (map TargetLine targets) _ (all_map TargetLine targets target_line)
              (texts.all_append IsLine (map RankLine ranks) _ (all_map RankLine ranks rank_line) (final_line choice chosen, tt)),
        ),
      ),
    );
    counted = length-targets 0 t.rows;
    usual = tt;
  }

  -- ---- it is right

  is_right : IsRight (listing_of t ranks choice)
  is_right = (
    (λ n lt target is. fit.grown.placed n target is),
    in_order t at ranks choice fit.arrivals ranking,
    all_listed t at ranks choice fit.arrivals ranking,
    is_chosen t choice chosen,
  )

fit_right : (t : Table) (at : ℕ) (text : List ℕ) → IsFit t at → IsListingOf t text → (verdict : Verdict) × IsRightText text verdict
fit_right t at text fit l =
    let listing : Listing = listing_of t l.ranks l.choice in
    (verdict_of listing, (listing, (l.spelled, is_listing t at l.ranks l.choice fit l.ranking l.chosen l.failed), is_right t at l.ranks l.choice fit l.ranking l.chosen l.failed, refl))

pub listings_right : ListingsAreRight
listings_right core text h listed =
    let end : Core = core_after (opening_core h.kind h.rules h.targets) h.events in
    let grown = history_grows h.kind h.rules h.targets h.events h.some h.few h.targets_in_range h.events_in_range in
    fit_right end.table end.taken text
    (record {
      grown = grown.grown;
      soon = taken_bounded h.kind h.rules h.targets h.events h.few;
      some = grown.some;
      few = grown.few;
      rules = subst AreRules (sym grown.ruled) h.set;
      arrivals = grown.arrivals;
    })
    (subst (λ (c : Core). IsListingOf c.table text) h.led listed)

-- and so is what is appended
pub appends_right : (core : Core) (old text new : List ℕ) → IsLedTo core → IsListingOf core.table text → new ≡ old ++ text → AppendsRight old new
appends_right core old text new led listed joined = let h = listings_right core text led listed in (text, h.0, joined, h.1)

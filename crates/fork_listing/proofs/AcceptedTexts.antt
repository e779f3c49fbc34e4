-- Exactly the texts of right listings are accepted.
use Rattle.fork_listing.proofs.Common.{◌≡◌, ℕ, suc, ◌<◌, ◌≤◌, List, map, Some, Result, Ok, Err, refl, sym, ap, ◌∙◌, arith, inl, inr, ◌⊎◌, slice_get, cases_lt, Score, HasScore, AreArrivals, End, ListedTarget, Verdict, TargetLine, most_arrival, arrival_of}
use Rattle.fork_listing.proofs.Common.{ended_at, IsInPlace, rows_of, score_in, score_at, Listing, rule_lines, read_listing, IsRight, IsVerdictOf, IsChecked, verdict_of, IsLine, IsEnd, IsListing, IsRightText, all_at, looked, option_map, slice_get-map}
use Rattle.fork_listing.proofs.Common.{slice_get_within, common_steps}
use Rattle.std.specs.Prelude.{IfOk, IfErr}
use Rattle.fork_rank.proofs.laws.Lines as texts
use Rattle.fork_model.proofs.laws.OneReplyLemmas.{one_choice}
use Rattle.fork_listing.specs.declared.refusal.CheckFault.{CheckFault}
use Rattle.fork_listing.specs.declared.refusal.CheckFault.TheVariants as fault
use Rattle.fork_listing.specs.Checking.{AreBranches}
use Rattle.fork_listing.specs.Accepted.{IsOkElseNoMemory, IsLineNamed, AcceptedTextsAreRight, RightTextsAreAccepted}
use Rattle.fork_listing.proofs.MalformedLines.{refused_by_first}
use Rattle.fork_listing.proofs.Meanings.{same_score}
use Rattle.fork_listing.proofs.SpelledListings.{read_exactly}

-- ---- a score and its arrival

pub scored_at : (targets : List ListedTarget) (n : ℕ) (score : Score) → score_at targets n ≡ Some score
    → (target : ListedTarget) × (slice_get targets n ≡ Some target) × (score_in target.end ≡ Some score)
scored_at targets n score e = looked (λ (t : ListedTarget). score_in t.end) (slice_get targets n) e

pub score_ends : (targets : List ListedTarget) (n : ℕ) (score : Score) → score_at targets n ≡ Some score → ended_at targets n ≡ Some score.arrival
score_ends targets n score e = grind arith

-- branches that stand as they may ended apart
pub ended_apart : (most_depth : ℕ) (targets : List ListedTarget) → ((n : ℕ) (target : ListedTarget) → slice_get targets n ≡ Some target → IsInPlace most_depth targets n target)
    → (m n a : ℕ) → ended_at targets m ≡ Some a → ended_at targets n ≡ Some a → m ≡ n
ended_apart most_depth targets placed m n a x y = go (cases_lt m n) (cases_lt n m)
  where
    clash : (i j : ℕ) → i < j → ended_at targets i ≡ Some a → ended_at targets j ≡ Some a → ⊥
    clash i j lt x y = let s = looked (λ (t : ListedTarget). arrival_of t.end) (slice_get targets j) y in (placed j s.0 s.1).apart i a lt x s.2

    go : (m < n) ⊎ (n ≤ m) → (n < m) ⊎ (m ≤ n) → m ≡ n
    go (inl lt) other = absurd (clash m n lt x y)
    go (inr le) (inl lt) = absurd (clash n m lt y x)
    go (inr le) (inr ge) = omega arith

-- ---- the stored answers of a listing arrived apart

pub target_lines : (l : Listing) → IsListing l → (n : ℕ) (target : ListedTarget) → slice_get l.targets n ≡ Some target → IsLine (TargetLine target)
target_lines l h n target is =
    let lines = texts.all_front IsLine (map TargetLine l.targets) _ (texts.all_back IsLine (rule_lines l.version l.rules) _ h.lines.1) in
    all_at IsLine (map TargetLine l.targets) lines n (TargetLine target) (slice_get-map TargetLine l.targets n ∙ ap (option_map TargetLine) is)

score_within : (end : End) (score : Score) → IsEnd end → score_in end ≡ Some score → score.arrival ≤ most_arrival
score_within end score h e = grind arith

arrivals : (l : Listing) → IsListing l → AreBranches l → AreArrivals (rows_of l.targets) (suc most_arrival)
arrivals l h branches = record { past = past; apart = apart }
  where
    placed : (n : ℕ) (target : ListedTarget) → slice_get l.targets n ≡ Some target → IsInPlace l.rules.depth l.targets n target
    placed n target is = branches n (slice_get_within l.targets n target is) target is

    past : (m : ℕ) (score : Score) → HasScore (rows_of l.targets) m score → score.arrival < suc most_arrival
    past m score is =
        let s = scored_at l.targets m score (sym (same_score l.targets m) ∙ is) in
        omega (arith, score_within s.0.end score (target_lines l h m s.0 s.1).3 s.2)

    apart : (m n : ℕ) (a b : Score) → HasScore (rows_of l.targets) m a → HasScore (rows_of l.targets) n b → a.arrival ≡ b.arrival → m ≡ n
    apart m n a b x y same =
        ended_apart l.rules.depth l.targets placed m n b.arrival
        (score_ends l.targets m a (sym (same_score l.targets m) ∙ x) ∙ ap Some same)
        (score_ends l.targets n b (sym (same_score l.targets n) ∙ y))

-- ---- what is right has no fault

no_fault : (l : Listing) → IsListing l → IsRight l → (result : Result Verdict CheckFault) → IsVerdictOf l result → IsOkElseNoMemory (verdict_of l) result
no_fault l h right (Ok verdict) is = is.1
no_fault l h right (Err (fault.Line n)) is = absurd is
no_fault l h right (Err (fault.Tree n)) is = absurd (is.1.2 (right.0 is.0 is.1.0))
no_fault l h right (Err (fault.Order n)) is = absurd (is.2.2 (right.1 is.1 is.2.0))
no_fault l h right (Err (fault.Absent n)) is = absurd (is.2.2 (right.2 n is.2.0))
no_fault l h right (Err fault.FinalLine) is = grind (arith, common_steps, arrivals l h right.0, one_choice)
no_fault l h right (Err fault.NoMemory) is = tt

pub right_accepted : RightTextsAreAccepted
right_accepted text verdict result right checked = grind (arith, read_exactly, no_fault)

pub accepted_right : AcceptedTextsAreRight
accepted_right text verdict checked = go (read_listing text) refl checked
  where
    go : (r : Result Listing ℕ) → read_listing text ≡ r → IsChecked r (Ok verdict) → IsRightText text verdict
    go (Ok l) is checked = (l, (read_exactly text l).0 is, checked.0, checked.1)
    go (Err n) is checked = absurd checked

-- the same of what a check has answered
pub right_of : (text : List ℕ) (result : Result Verdict CheckFault) → IsChecked (read_listing text) result → IfOk result (IsRightText text)
right_of text result checked = grind (arith, accepted_right)

pub named_of : (text : List ℕ) (result : Result Verdict CheckFault) → IsChecked (read_listing text) result → IfErr result (IsLineNamed text)
named_of text result checked = grind (arith, refused_by_first)

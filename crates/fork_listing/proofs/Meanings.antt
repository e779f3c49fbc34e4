-- What a right listing tells.
use Rattle.fork_listing.proofs.Common.{◌≡◌, ℕ, zero, suc, ◌<◌, List, [], ◌∷◌, Option, Some, Result, Ok, Err, refl, sym, ap, subst, ◌∙◌, arith, inl, inr, slice_get, option_and_then, option_map, Row, Score, Before, IsFirst, NoneStored, stored_at}
use Rattle.fork_listing.proofs.Common.{Before-trans, ListedTarget, Ranked, Final, row_of, rows_of, score_of, score_in, score_at, RanksBehind, IsChosen, Listing, read_listing, AreInOrder, AreListed, IsChecked, verdict_of, FirstLineIs, slice_get-map, looked}
use Rattle.fork_listing.proofs.Common.{some_same, cases, slice_get_within, there, ListedAreStored, common_steps}
use Rattle.fork_model.specs.Choice as model
use Rattle.fork_listing.specs.Meaning.{AreRanked, FinalIsFirst, TellsTheChoice, RightTellsTheChoice, AcceptedTellsTheChoice}

abbrev seen : Option Row → Option Score
seen row = option_map model.score_of (stored_at row)

score_seen : (o : Option ListedTarget) → seen (option_map row_of o) ≡ option_and_then (λ (t : ListedTarget). score_in t.end) o
score_seen o = grind arith

-- the score in a row is that in its line
pub same_score : (targets : List ListedTarget) (n : ℕ) → seen (slice_get (rows_of targets) n) ≡ score_at targets n
same_score targets n = ap seen (slice_get-map row_of targets n) ∙ score_seen (slice_get targets n)

one_line : (a b : Ranked) → a.number ≡ b.number → score_of a ≡ score_of b → a ≡ b
one_line a b e h = (λ i. record { status = (h i).status; number = e i; arrival = (h i).arrival })

pub listed : (l : Listing) → AreInOrder l → AreListed l → ListedAreStored l
listed l order all = λ ranked. (
  (λ at. same_score l.targets ranked.number ∙ (order at.0 (slice_get_within l.ranks at.0 ranked at.1) ranked at.1).stored),
  (λ stored.
      let here : score_at l.targets ranked.number ≡ Some (score_of ranked) = sym (same_score l.targets ranked.number) ∙ stored in
      let scored = looked (λ (target : ListedTarget). score_in target.end) (slice_get l.targets ranked.number) here in
      let h = all ranked.number (slice_get_within l.targets ranked.number scored.0 scored.1) (score_of ranked) here in
      let found : score_at l.targets h.1.number ≡ Some (score_of h.1) = (order h.0 (slice_get_within l.ranks h.0 h.1 h.2) h.1 h.2).stored in
      let one : score_of h.1 ≡ score_of ranked = some_same (sym found ∙ ap (score_at l.targets) h.3 ∙ here) in
      (h.0, h.2 ∙ ap Some (one_line h.1 ranked h.3 one))),
)

pub ranked : (l : Listing) → AreInOrder l → (k j : ℕ) (a b : Ranked) → j < k → slice_get l.ranks j ≡ Some a → slice_get l.ranks k ≡ Some b
    → Before l.rules (score_of a) (score_of b)
ranked l order zero j a b lt x y = absurd (omega arith)
ranked l order (suc k) j a b lt x y =
    let h = slice_get_within l.ranks (suc k) b y in
    let mid = there l.ranks k (omega arith) in
    let last : Before l.rules (score_of mid.0) (score_of b) = subst (λ (o : Option Ranked). RanksBehind l.rules o b) mid.1 (order (suc k) h b y).behind in
    elim (cases j k (omega arith)) [
      | inl less ↦ Before-trans l.rules (score_of a) (score_of mid.0) (score_of b) (ranked l order k j a mid.0 less x mid.1) last
      | inr same ↦
          let one : mid.0 ≡ a = some_same (sym mid.1 ∙ ap (slice_get l.ranks) (sym same) ∙ x) in
          subst (λ (r : Ranked). Before l.rules (score_of r) (score_of b)) one last
    ]

pub first : (l : Listing) → IsChosen l.rules l.targets l.last → FinalIsFirst l
first l chosen = grind arith

-- the line of an answer that none stored ranks before is the first
leads : (l : Listing) (n : ℕ) (score : Score) → ListedAreStored l → AreRanked l → IsFirst l.rules (rows_of l.targets) n score → FirstLineIs l.ranks (Some n)
leads l n score stored order is = at found.0 found.1
  where
    line : Ranked
    line = record { status = score.status; number = n; arrival = score.arrival }

    found : (k : ℕ) × (slice_get l.ranks k ≡ Some line)
    found = (stored line).1 is.stored

    at : (k : ℕ) → slice_get l.ranks k ≡ Some line → FirstLineIs l.ranks (Some n)
    at zero e = (line, e, refl)
    at (suc k) e =
        let behind = slice_get_within l.ranks (suc k) line e in
        let front = there l.ranks 0 (omega arith) in
        absurd (is.first front.0.number (score_of front.0) ((stored front.0).0 (0, front.1)) (order 0 (suc k) front.0 line (omega arith) front.1 e))

-- where nothing is stored there is no line
no_line : (l : Listing) → ListedAreStored l → NoneStored (rows_of l.targets) → l.ranks ≡ []
no_line l stored none = at l.ranks refl
  where
    at : (ranks : List Ranked) → l.ranks ≡ ranks → ranks ≡ []
    at [] e = refl
    at (ranked ∷ ranks) e = absurd (none ranked.number (score_of ranked) ((stored ranked).0 (0, ap (λ (rs : List Ranked). slice_get rs 0) e)))

pub first_line : (l : Listing) → ListedAreStored l → AreRanked l → FinalIsFirst l → FirstLineIs l.ranks l.last.number
first_line l stored order final =
    elim final [
      | inl best ↦ subst P (sym (ap number best.4)) (leads l best.0 best.1 stored order best.2)
      | inr other ↦ elim other [
        | inl worst ↦ subst P (sym (ap number worst.4)) (leads l worst.0 worst.1 stored order worst.2)
        | inr none ↦ subst P (sym (ap number none.1)) (no_line l stored none.0)
      ]
    ]
  where
    P : Option ℕ → Type 0
    P n = FirstLineIs l.ranks n

    number : Final → Option ℕ
    number last = last.number

pub right_tells : RightTellsTheChoice
right_tells l right = grind (arith, common_steps, listed l right.1 right.2, first l right.3, ranked, first_line)

pub accepted_tells : AcceptedTellsTheChoice
accepted_tells text verdict checked = at (read_listing text) refl checked
  where
    at : (r : Result Listing ℕ) → read_listing text ≡ r → IsChecked r (Ok verdict) → (l : Listing) × (read_listing text ≡ Ok l) × (verdict ≡ verdict_of l) × TellsTheChoice l
    at (Ok l) e is = (l, e, is.1, right_tells l is.0)
    at (Err n) e is = absurd is

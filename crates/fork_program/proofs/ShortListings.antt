-- A right listing is no longer than a text that is checked.
use Rattle.fork_program.proofs.Common.{◌≡◌, ◌≤◌, ◌<◌, ◌+◌, ℕ, suc, Bool, true, false, eqb, List, [], ◌∷◌, ◌++◌, map, length, Option, Some, refl, sym, ap, subst, ◌∙◌, arith, slice_get, option_and_then, flat_map, AllByRecursion, decimal, same_Some}
use Rattle.fork_program.proofs.Common.{Irreflexive, Verdict, RightTellsTheChoice, most_text, common_steps}
use Rattle.std.proofs.Common.{◌*◌, length-append}
use Rattle.std.specs.Prelude.{◌||◌, All}
use Rattle.std.specs.List.{list_any, IsDistinct}
use Rattle.std.proofs.lemmas.Bool.{false_from_ne_true, eqb-true}
use Rattle.std.proofs.lemmas.Fmt.{length-decimal-le}
use Rattle.std.proofs.lemmas.List.Elements.{All-head, All-tail}
use Rattle.std.proofs.lemmas.Map.Steps.{length-le_from_distinct_below}
use Rattle.std.proofs.lemmas.Option.{slice_get_within}
use Rattle.fork_model.specs.Rank.{Score, Before}
use Rattle.fork_rank.specs.PreferredText.{list_text}
use Rattle.fork_listing.specs.declared.line.Version.{Version}
use Rattle.fork_tree.specs.declared.row.End.{End}
use Rattle.fork_listing.specs.declared.line.ListedTarget.{ListedTarget}
use Rattle.fork_listing.specs.declared.line.Ranked.{Ranked}
use Rattle.fork_listing.specs.Line.{Line, version_text, number_text, how_text, end_text, line_text}
use Rattle.fork_listing.specs.Ranks.{score_of, score_at}
use Rattle.fork_listing.specs.Text.{Listing, rule_lines, lines_of, lines_text}
use Rattle.fork_listing.specs.Spelled.{IsEnd, IsNumberOrNone, IsLine, IsListing}
use Rattle.fork_listing.specs.Checking.{IsRight}
use Rattle.fork_listing.specs.Accepted.{IsRightText}

-- ---- a line is short

short : (n : ℕ) → n < 4294967296 → length (decimal n) ≤ 10
short n small = length-decimal-le 10 n (omega arith) (omega arith) (omega arith)

-- a text behind another
joined : (a b : List ℕ) (m n : ℕ) → length a ≤ m → length b ≤ n → length (a ++ b) ≤ m + n
joined a b m n x y = let e : length (a ++ b) ≡ length a + length b = length-append a b in omega arith

-- a number, a space and more
numbered : (k : ℕ) (rest : List ℕ) (n : ℕ) → k < 4294967296 → length rest ≤ n → length (decimal k ++ 32 ∷ rest) ≤ 11 + n
numbered k rest n small h = grind (arith, common_steps, length-append, short)

number_short : (number : Option ℕ) → IsNumberOrNone number → length (number_text number) ≤ 10
number_short number h = grind (arith, common_steps, short)

how_short : (received : Bool) → length (how_text received) ≤ 8
how_short received = grind arith

version_short : (version : Version) → length (version_text version) ≤ 1
version_short version = grind arith

end_short : (end : End) → IsEnd end → length (end_text end) ≤ 40
end_short end h = grind (arith, common_steps, numbered, how_short, short)

statuses_short : (statuses : List ℕ) → All (λ n. (400 ≤ n) × (n < 500)) statuses → length (flat_map (λ m. 44 ∷ decimal m) statuses) ≤ 11 * length statuses
statuses_short [] h = omega arith
statuses_short (n ∷ ns) h =
    let first = All-head (λ k. (400 ≤ k) × (k < 500)) n ns h in
    let d : length (decimal n) ≤ 10 = short n (omega (arith, first.1)) in
    let rest : length (flat_map (λ m. 44 ∷ decimal m) ns) ≤ 11 * length ns = statuses_short ns (All-tail (λ k. (400 ≤ k) × (k < 500)) n ns h) in
    grind (arith, common_steps, length-append)

list_short : (statuses : List ℕ) → length statuses ≤ 16 → All (λ n. (400 ≤ n) × (n < 500)) statuses → length (list_text statuses) ≤ 180
list_short [] few h = omega arith
list_short (n ∷ ns) few h = grind (arith, common_steps, statuses_short (n ∷ ns) h)

line_short : (line : Line) → IsLine line → length (line_text line) ≤ 200
line_short line h = grind (arith, common_steps, version_short, short, length-append, list_short, end_short, numbered, joined, number_short)

lines_short : (lines : List Line) → AllByRecursion IsLine lines → length (lines_text lines) ≤ 201 * length lines
lines_short [] h = omega arith
lines_short (line ∷ lines) h = grind (arith, common_steps, line_short, length-append, lines_short lines h.1)

-- ---- there are few

abbrev number_of : Ranked → ℕ
number_of ranked = ranked.number

-- each tells of a row of its own
abbrev NamesOnce : List Ranked → Type 0
NamesOnce ranks = (j k : ℕ) (a b : Ranked) → j < k → slice_get ranks j ≡ Some a → slice_get ranks k ≡ Some b → a.number ≡ b.number → ⊥

apart_from : (q : ℕ) (ranks : List Ranked) → ((k : ℕ) (b : Ranked) → slice_get ranks k ≡ Some b → q ≡ b.number → ⊥) → AllByRecursion (λ y. eqb q y ≡ false) (map number_of ranks)
apart_from q [] never = tt
apart_from q (ranked ∷ ranks) never = (
  false_from_ne_true (eqb q ranked.number) (λ e. never 0 ranked refl (eqb-true q ranked.number e)),
  apart_from q ranks (λ k b at same. never (suc k) b at same),
)

distinct : (ranks : List Ranked) → NamesOnce ranks → IsDistinct eqb (map number_of ranks)
unfolding IsDistinct
distinct [] once = tt
distinct (ranked ∷ ranks) once = (
  apart_from ranked.number ranks (λ k b at same. once 0 (suc k) ranked b (omega arith) refl at same),
  distinct ranks (λ j k a b lt x y same. once (suc j) (suc k) a b (omega (arith, lt)) x y same),
)

named_below : (n : ℕ) (ranks : List Ranked) → ((k : ℕ) (ranked : Ranked) → slice_get ranks k ≡ Some ranked → ranked.number < n)
    → (q : ℕ) → list_any (eqb q) (map number_of ranks) ≡ true → q < n
named_below n [] below q e = absurd cc
named_below n (ranked ∷ ranks) below q e =
    step (eqb q ranked.number) (eqb-true q ranked.number) (named_below n ranks (λ k r at. below (suc k) r at) q) e
  where
    step : (b : Bool) → (b ≡ true → q ≡ ranked.number) → (list_any (eqb q) (map number_of ranks) ≡ true → q < n) → (b || list_any (eqb q) (map number_of ranks)) ≡ true → q < n
    step true here behind e = let same : q ≡ ranked.number = here refl in let lt : ranked.number < n = below 0 ranked refl in omega arith
    step false here behind e = behind e

length_numbers : (ranks : List Ranked) → length (map number_of ranks) ≡ length ranks
length_numbers [] = refl
length_numbers (ranked ∷ ranks) = ap suc (length_numbers ranks)

scored_within : (targets : List ListedTarget) (n : ℕ) (score : Score) → score_at targets n ≡ Some score → n < length targets
scored_within targets n score e = grind (arith, common_steps, option_and_then, slice_get_within)

-- there are no more rank lines than target lines
few_ranks : RightTellsTheChoice → Irreflexive → (l : Listing) → IsRight l → length l.ranks ≤ length l.targets
few_ranks tells irreflexive l right =
    let numbers : length (map number_of l.ranks) ≤ length l.targets =
    length-le_from_distinct_below (map number_of l.ranks) (length l.targets) (distinct l.ranks once)
    (named_below (length l.targets) l.ranks (λ k ranked at. scored_within l.targets ranked.number (score_of ranked) (stored k ranked at))) in
    let same : length (map number_of l.ranks) ≡ length l.ranks = length_numbers l.ranks in
    omega arith
  where
    stored : (k : ℕ) (ranked : Ranked) → slice_get l.ranks k ≡ Some ranked → score_at l.targets ranked.number ≡ Some (score_of ranked)
    stored k ranked at = (right.1 k (slice_get_within l.ranks k ranked at) ranked at).stored

    once : NamesOnce l.ranks
    once j k a b lt x y same =
        let scores : score_of a ≡ score_of b = same_Some _ _ (sym (stored j a x) ∙ ap (score_at l.targets) same ∙ stored k b y) in
        irreflexive l.rules (score_of b) (subst (λ (s : Score). Before l.rules s (score_of b)) scores ((tells l right).1 j k a b lt x y))

few_rules : (l : Listing) → length (rule_lines l.version l.rules) ≤ 2
few_rules l = grind arith

length_of_map : {X : Type 0} (f : X → Line) (xs : List X) → length (map f xs) ≡ length xs
length_of_map f [] = refl
length_of_map f (x ∷ xs) = ap suc (length_of_map f xs)

few_targets : (l : Listing) → IsListing l → length l.targets ≤ 256
few_targets l is = grind arith

few_lines : RightTellsTheChoice → Irreflexive → (l : Listing) → IsListing l → IsRight l → length (lines_of l) ≤ 516
few_lines tells irreflexive l is right = grind (arith, common_steps, few_ranks, few_targets, few_rules, length-append, length_of_map)

pub right_is_short : RightTellsTheChoice → Irreflexive → (text : List ℕ) (verdict : Verdict) → IsRightText text verdict → length text ≤ most_text
right_is_short tells irreflexive text verdict right =
    let l : Listing = right.0 in
    let spelled : length text ≡ length (lines_text (lines_of l)) = ap length right.1.0 in
    let lines : length (lines_of l) ≤ 516 = few_lines tells irreflexive l right.1.1 right.2 in
    grind (arith, common_steps, lines_short (lines_of l) right.1.1.lines)

-- A line is read exactly where it is the spelling of a line.
use Rattle.fork_listing.proofs.Common.{◌≡◌, ℕ, ◌≤◌, Bool, true, eqb, List, ◌∷◌, ◌++◌, Some, refl, ap, ◌∙◌, arith, not, codes, option_and_then, option_map, decimal, eqb-false, bytes_eq-Decides, Lacks, plain_number_within, most_targets, Version, End}
use Rattle.fork_listing.proofs.Common.{Stored, Taken, Silent, Never, ListedTarget, Ranked, Final, Line, ForkLine, PreferLine, DepthLine, TargetLine, RankLine, FinalLine, version_text, number_text, how_text, end_text, line_text, most_arrival, most_listed}
use Rattle.fork_listing.proofs.Common.{most_q, most_number, before, read_status, read_parent, read_version, read_count, read_end, read_line, IsTargetLine, IsRankLine, IsFinalLine, IsLine, IsEnd, number_read, number_spelled, decimal_lacks, found_map}
use Rattle.fork_listing.proofs.Common.{found_then, before_read, before_found}
use Rattle.std.specs.List.{list_all}
use Rattle.fork_tree.specs.declared.row.End.TheVariants as tree
use Rattle.sip_lex.proofs.laws.Cuts.{Lacks-append, Lacks-pass}
use Rattle.fork_rank.proofs.laws.Preferred.{preferred_read, preferred_found, list_lacks}
use Rattle.fork_listing.specs.declared.line.ListingWord.{ListingWord}
use Rattle.fork_listing.specs.declared.line.ListingWord.TheVariants as word
use Rattle.fork_rank.specs.PreferredText.{read_preferred}
use Rattle.fork_listing.specs.Reading.{word_of, target_with, read_target, ranked_with, read_ranked, final_with, read_final, read_fork, read_rest}
use Rattle.fork_listing.specs.inner.Spelled.{IsSpelledBy}
use Rattle.fork_listing.proofs.SpelledParts.{status_read, status_found, count_read, count_found, most_listed_small, parent_read, parent_found, parent_lacks, version_found, end_read, end_found}

-- ---- what is spelled is read

fork_read : (version : Version) (count : ℕ) → IsLine (ForkLine version count) → read_fork (version_text version ++ 32 ∷ decimal count) ≡ Some (ForkLine version count)
fork_read version count h = grind (arith, count_read)

target_read : (target : ListedTarget) → IsTargetLine target
    → read_target (decimal target.number ++ 32 ∷ (number_text target.parent ++ 32 ∷ (decimal target.q ++ 32 ∷ end_text target.end))) ≡ Some target
target_read target h =
    let third : List ℕ = decimal target.q ++ 32 ∷ end_text target.end in
    let second : List ℕ = number_text target.parent ++ 32 ∷ third in
    rw (before_read (plain_number_within most_number) (decimal target.number) second target.number (decimal_lacks 32 target.number refl (omega arith))
    (number_read most_number target.number h.0 (omega arith)))
    (rw (before_read read_parent (number_text target.parent) third target.parent (parent_lacks 32 target.parent refl refl h.1) (parent_read target.parent h.1))
    (rw (before_read (plain_number_within most_q) (decimal target.q) (end_text target.end) target.q (decimal_lacks 32 target.q refl (omega arith))
    (number_read most_q target.q h.2 (omega arith)))
    (ap (option_map (target_with target.number target.parent target.q)) (end_read target.end h.3))))

ranked_read : (ranked : Ranked) → IsRankLine ranked → read_ranked (decimal ranked.status ++ 32 ∷ (decimal ranked.number ++ 32 ∷ decimal ranked.arrival)) ≡ Some ranked
ranked_read ranked h =
    let second : List ℕ = decimal ranked.number ++ 32 ∷ decimal ranked.arrival in
    rw (before_read read_status (decimal ranked.status) second ranked.status (decimal_lacks 32 ranked.status refl (omega arith))
    (status_read ranked.status h.0))
    (rw (before_read (plain_number_within most_number) (decimal ranked.number) (decimal ranked.arrival) ranked.number
    (decimal_lacks 32 ranked.number refl (omega arith)) (number_read most_number ranked.number h.1 (omega arith)))
    (ap (option_map (ranked_with ranked.status ranked.number)) (number_read most_arrival ranked.arrival h.2 (omega arith))))

final_read : (last : Final) → IsFinalLine last → read_final (decimal last.status ++ 32 ∷ number_text last.number) ≡ Some last
final_read last h =
    ap (option_and_then (λ s. option_map (final_with s.0) (read_parent s.1)))
    (before_read read_status (decimal last.status) (number_text last.number) last.status (decimal_lacks 32 last.status refl (omega arith)) (status_read last.status h.0))
    ∙ ap (option_map (final_with last.status)) (parent_read last.number h.1)

pub line_read : (line : Line) → IsLine line → read_line (line_text line) ≡ Some line
line_read (ForkLine version count) h = fork_read version count h
line_read (PreferLine statuses) h = ap (option_map PreferLine) (preferred_read statuses h)
line_read (DepthLine depth) h = ap (option_map DepthLine) (number_read most_targets depth h (omega arith))
line_read (TargetLine target) h = ap (option_map TargetLine) (target_read target h)
line_read (RankLine ranked) h = ap (option_map RankLine) (ranked_read ranked h)
line_read (FinalLine last) h = ap (option_map FinalLine) (final_read last h)

-- ---- what is read is spelled so

abbrev word_text : ListingWord → List ℕ
word_text word.Fork = codes "fork"
word_text word.Prefer = codes "prefer"
word_text word.Depth = codes "depth"
word_text word.Target = codes "target"
word_text word.Rank = codes "rank"
word_text word.Final = codes "final"

word_found : (text : List ℕ) (w : ListingWord) → word_of text ≡ Some w → text ≡ word_text w
word_found text w e = grind (arith, bytes_eq-Decides)

fork_found : (rest : List ℕ) (line : Line) → read_fork rest ≡ Some line → IsSpelledBy (codes "fork" ++ 32 ∷ rest) line
fork_found rest line e =
    found_then (λ v. option_map (ForkLine v.0) (read_count v.0 v.1)) (before read_version rest) line (IsSpelledBy (codes "fork" ++ 32 ∷ rest) line)
    (λ v at is. found_map (ForkLine v.0) (read_count v.0 v.1) line (IsSpelledBy (codes "fork" ++ 32 ∷ rest))
    (λ count of_.
    let f = before_found read_version rest v at in
    let version : f.0 ≡ version_text v.0 = version_found f.0 v.0 f.2 in
    let c = count_found v.0 v.1 count of_ in
    let whole : rest ≡ version_text v.0 ++ 32 ∷ decimal count = f.1 ∙ ap (λ (t : List ℕ). t ++ 32 ∷ v.1) version ∙ ap (λ (t : List ℕ). version_text v.0 ++ 32 ∷ t) c.0 in
    (ap (λ (t : List ℕ). codes "fork " ++ t) whole, c.1))
    is)
    e

target_found : (rest : List ℕ) (target : ListedTarget) → read_target rest ≡ Some target → IsSpelledBy (codes "target" ++ 32 ∷ rest) (TargetLine target)
target_found rest target e =
    let P : ListedTarget → Type 0 = λ t. IsSpelledBy (codes "target" ++ 32 ∷ rest) (TargetLine t) in
    found_then (λ n.
    option_and_then (λ p.
    option_and_then (λ q.
    option_map (target_with n.0 p.0 q.0) (read_end q.1))
    (before (plain_number_within most_q) p.1))
    (before read_parent n.1))
    (before (plain_number_within most_number) rest) target (P target)
    (λ n at is. found_then (λ p.
    option_and_then (λ q.
    option_map (target_with n.0 p.0 q.0) (read_end q.1))
    (before (plain_number_within most_q) p.1))
    (before read_parent n.1) target (P target)
    (λ p under is. found_then (λ q.
    option_map (target_with n.0 p.0 q.0) (read_end q.1))
    (before (plain_number_within most_q) p.1) target (P target)
    (λ q by is. found_map (target_with n.0 p.0 q.0) (read_end q.1) target P
    (λ end so.
    let f = before_found (plain_number_within most_number) rest n at in
    let g = before_found read_parent n.1 p under in
    let h = before_found (plain_number_within most_q) p.1 q by in
    let number = number_spelled most_number f.0 n.0 (omega arith) f.2 in
    let parent = parent_found g.0 p.0 g.2 in
    let value = number_spelled most_q h.0 q.0 (omega arith) h.2 in
    let ends = end_found q.1 end so in
    let third : p.1 ≡ decimal q.0 ++ 32 ∷ end_text end = h.1 ∙ ap (λ (t : List ℕ). t ++ 32 ∷ q.1) value.spelled ∙ ap (λ (t : List ℕ). decimal q.0 ++ 32 ∷ t) ends.0 in
    let second : n.1 ≡ number_text p.0 ++ 32 ∷ (decimal q.0 ++ 32 ∷ end_text end) = g.1 ∙ ap (λ (t : List ℕ). t ++ 32 ∷ p.1) parent.0 ∙ ap (λ (t : List ℕ). number_text p.0 ++ 32 ∷ t) third in
    let whole : rest ≡ decimal n.0 ++ 32 ∷ (number_text p.0 ++ 32 ∷ (decimal q.0 ++ 32 ∷ end_text end)) = f.1 ∙ ap (λ (t : List ℕ). t ++ 32 ∷ n.1) number.spelled ∙ ap (λ (t : List ℕ). decimal n.0 ++ 32 ∷ t) second in
    (ap (λ (t : List ℕ). codes "target " ++ t) whole, (number.within, parent.1, value.within, ends.1)))
    is) is) is)
    e

ranked_found : (rest : List ℕ) (ranked : Ranked) → read_ranked rest ≡ Some ranked → IsSpelledBy (codes "rank" ++ 32 ∷ rest) (RankLine ranked)
ranked_found rest ranked e =
    let P : Ranked → Type 0 = λ r. IsSpelledBy (codes "rank" ++ 32 ∷ rest) (RankLine r) in
    found_then (λ s.
    option_and_then (λ n.
    option_map (ranked_with s.0 n.0) (plain_number_within most_arrival n.1))
    (before (plain_number_within most_number) s.1))
    (before read_status rest) ranked (P ranked)
    (λ s at is. found_then (λ n.
    option_map (ranked_with s.0 n.0) (plain_number_within most_arrival n.1))
    (before (plain_number_within most_number) s.1) ranked (P ranked)
    (λ n by is. found_map (ranked_with s.0 n.0) (plain_number_within most_arrival n.1) ranked P
    (λ arrival so.
    let f = before_found read_status rest s at in
    let g = before_found (plain_number_within most_number) s.1 n by in
    let status = status_found f.0 s.0 f.2 in
    let number = number_spelled most_number g.0 n.0 (omega arith) g.2 in
    let arrives = number_spelled most_arrival n.1 arrival (omega arith) so in
    let second : s.1 ≡ decimal n.0 ++ 32 ∷ decimal arrival = g.1 ∙ ap (λ (t : List ℕ). t ++ 32 ∷ n.1) number.spelled ∙ ap (λ (t : List ℕ). decimal n.0 ++ 32 ∷ t) arrives.spelled in
    let whole : rest ≡ decimal s.0 ++ 32 ∷ (decimal n.0 ++ 32 ∷ decimal arrival) = f.1 ∙ ap (λ (t : List ℕ). t ++ 32 ∷ s.1) status.0 ∙ ap (λ (t : List ℕ). decimal s.0 ++ 32 ∷ t) second in
    (ap (λ (t : List ℕ). codes "rank " ++ t) whole, (status.1, number.within, arrives.within)))
    is) is)
    e

final_found : (rest : List ℕ) (last : Final) → read_final rest ≡ Some last → IsSpelledBy (codes "final" ++ 32 ∷ rest) (FinalLine last)
final_found rest last e =
    let P : Final → Type 0 = λ f. IsSpelledBy (codes "final" ++ 32 ∷ rest) (FinalLine f) in
    found_then (λ s. option_map (final_with s.0) (read_parent s.1)) (before read_status rest) last (P last)
    (λ s at is. found_map (final_with s.0) (read_parent s.1) last P
    (λ number so.
    let f = before_found read_status rest s at in
    let status = status_found f.0 s.0 f.2 in
    let n = parent_found s.1 number so in
    let whole : rest ≡ decimal s.0 ++ 32 ∷ number_text number = f.1 ∙ ap (λ (t : List ℕ). t ++ 32 ∷ s.1) status.0 ∙ ap (λ (t : List ℕ). decimal s.0 ++ 32 ∷ t) n.0 in
    (ap (λ (t : List ℕ). codes "final " ++ t) whole, (status.1, n.1)))
    is)
    e

-- behind a word and its space
rest_found : (w : ListingWord) (rest : List ℕ) (line : Line) → read_rest w rest ≡ Some line → IsSpelledBy (word_text w ++ 32 ∷ rest) line
rest_found word.Fork rest line e = fork_found rest line e
rest_found word.Prefer rest line e =
    found_map PreferLine (read_preferred rest) line (IsSpelledBy (codes "prefer" ++ 32 ∷ rest))
    (λ statuses at. let h = preferred_found rest statuses at in (ap (λ (text : List ℕ). codes "prefer " ++ text) h.0, h.1)) e
rest_found word.Depth rest line e = grind (arith, number_spelled)
rest_found word.Target rest line e =
    found_map TargetLine (read_target rest) line (IsSpelledBy (codes "target" ++ 32 ∷ rest)) (λ target at. target_found rest target at) e
rest_found word.Rank rest line e =
    found_map RankLine (read_ranked rest) line (IsSpelledBy (codes "rank" ++ 32 ∷ rest)) (λ ranked at. ranked_found rest ranked at) e
rest_found word.Final rest line e =
    found_map FinalLine (read_final rest) line (IsSpelledBy (codes "final" ++ 32 ∷ rest)) (λ last at. final_found rest last at) e

-- what is read is the spelling of a line
pub line_found : (text : List ℕ) (line : Line) → read_line text ≡ Some line → IsSpelledBy text line
line_found text line e =
    found_then (λ w. read_rest w.0 w.1) (before word_of text) line (IsSpelledBy text line)
    (λ w at is.
    let f = before_found word_of text w at in
    let h = rest_found w.0 w.1 line is in
    (f.1 ∙ ap (λ (word : List ℕ). word ++ 32 ∷ w.1) (word_found f.0 w.0 f.2) ∙ h.0, h.1))
    e

-- ---- no LF stands in a line

version_lacks : (version : Version) → Lacks 10 (version_text version)
version_lacks version = grind arith

-- a word with its space
spaced : (front back : List ℕ) → Lacks 10 front → Lacks 10 back → Lacks 10 (front ++ 32 ∷ back)
spaced front back f b = Lacks-append 10 front (32 ∷ back) f (eqb-false 32 10 refl, b)

-- bytes without an LF
abbrev is_plain : ℕ → Bool
is_plain b = not (eqb b 10)

worded : (front back : List ℕ) → list_all is_plain front ≡ true → Lacks 10 back → Lacks 10 (front ++ back)
worded front back plain b = Lacks-append 10 front back (Lacks-pass is_plain 10 front refl plain) b

how_lacks : (received : Bool) → Lacks 10 (how_text received)
how_lacks received = grind arith

end_lacks : (end : End) → IsEnd end → Lacks 10 (end_text end)
end_lacks (Stored status arrival received) h =
    worded (codes "stored ") _ refl
    (spaced (decimal status) _ (decimal_lacks 10 status refl (omega arith))
    (spaced (decimal arrival) _ (decimal_lacks 10 arrival refl (omega arith)) (how_lacks received)))
end_lacks (Taken arrival) h = worded (codes "taken ") _ refl (decimal_lacks 10 arrival refl (omega arith))
end_lacks (Silent arrival) h = worded (codes "silent ") _ refl (decimal_lacks 10 arrival refl (omega arith))
end_lacks Never h = Lacks-pass is_plain 10 (codes "never") refl refl
end_lacks (tree.Accepted arrival) h = absurd h

fork_lacks : (version : Version) (count : ℕ) → IsLine (ForkLine version count) → Lacks 10 (line_text (ForkLine version count))
fork_lacks version count h =
    let bound : most_listed version ≤ 256 = most_listed_small version in
    worded (codes "fork ") _ refl (spaced (version_text version) (decimal count) (version_lacks version) (decimal_lacks 10 count refl (omega arith)))

target_lacks : (target : ListedTarget) → IsTargetLine target → Lacks 10 (line_text (TargetLine target))
target_lacks target h =
    worded (codes "target ") _ refl
    (spaced (decimal target.number) _ (decimal_lacks 10 target.number refl (omega arith))
    (spaced (number_text target.parent) _ (parent_lacks 10 target.parent refl refl h.1)
    (spaced (decimal target.q) _ (decimal_lacks 10 target.q refl (omega arith)) (end_lacks target.end h.3))))

ranked_lacks : (ranked : Ranked) → IsRankLine ranked → Lacks 10 (line_text (RankLine ranked))
ranked_lacks ranked h =
    worded (codes "rank ") _ refl
    (spaced (decimal ranked.status) _ (decimal_lacks 10 ranked.status refl (omega arith))
    (spaced (decimal ranked.number) _ (decimal_lacks 10 ranked.number refl (omega arith)) (decimal_lacks 10 ranked.arrival refl (omega arith))))

final_lacks : (last : Final) → IsFinalLine last → Lacks 10 (line_text (FinalLine last))
final_lacks last h =
    worded (codes "final ") _ refl
    (spaced (decimal last.status) _ (decimal_lacks 10 last.status refl (omega arith)) (parent_lacks 10 last.number refl refl h.1))

pub line_lacks : (line : Line) → IsLine line → Lacks 10 (line_text line)
line_lacks (ForkLine version count) h = fork_lacks version count h
line_lacks (PreferLine statuses) h = worded (codes "prefer ") _ refl (list_lacks statuses h.client_errors)
line_lacks (DepthLine depth) h = worded (codes "depth ") _ refl (decimal_lacks 10 depth refl (omega arith))
line_lacks (TargetLine target) h = target_lacks target h
line_lacks (RankLine ranked) h = ranked_lacks ranked h
line_lacks (FinalLine last) h = final_lacks last h

-- A listing is read of exactly the text that spells it.
use Rattle.fork_listing.proofs.Common.{◌≡◌, ℕ, zero, suc, ◌-◌, List, [], ◌∷◌, ◌++◌, map, length, Option, Some, None, Ok, Err, refl, sym, ap, ◌∙◌, arith, append_assoc, append-nil, slice_split, join_with_byte-slice_split, is, Rules, Version, First}
use Rattle.fork_listing.proofs.Common.{Second, Third, ListedTarget, Ranked, Final, ListingPhase, Line, ForkLine, PreferLine, DepthLine, TargetLine, RankLine, FinalLine, line_text, read_line, Listing, rule_lines, listing_text, Draft, no_draft, in_phase}
use Rattle.fork_listing.proofs.Common.{drafted_line, listing_in, or_line, read_from, IsLine, IsListing, drafted, finished_draft, rules, common_steps}
use Rattle.std.proofs.lemmas.Bool.{cond-false, ne_eqb}
use Rattle.fork_listing.specs.declared.draft.ListingPhase.TheVariants.{AtFork, AtPrefer, AtDepth, AtTargets, AtRanks, AtEnd}
use Rattle.fork_listing.specs.Text.{lines_of, targets_due, read_listing}
use Rattle.fork_rank.specs.RuleLines.{usual_rules}
use Rattle.fork_rank.proofs.laws.Lines.{IsReader, read_lines}
use Rattle.fork_rank.proofs.laws.Lines as texts
use Rattle.fork_listing.specs.Spelled.{IsUsualElse, IsTextOf, ReadExactly, drafted_lines}
use Rattle.fork_listing.proofs.SpelledLines.{line_read, line_found, line_lacks}

refused_at : (number m : ℕ) (o : Option Listing) → or_line number o ≡ Err m → number ≡ m
refused_at number m o e = grind arith

-- a listing is read one line at a time
pub reader : IsReader IsLine IsLine line_text read_line drafted_line read_from
reader = record {
  lacks = line_lacks;
  line_read = line_read;
  line_found = line_found;
  none = λ number draft. refl;
  unended = λ number draft b bs. refl;
  at_end = λ number draft m e. refused_at number m (listing_in draft draft.phase) e;
  goes_on = λ number draft text pieces next more due. texts.next_piece drafted finished_draft number draft text pieces (Some next) more due;
  stops = λ number draft text pieces more none. texts.next_piece drafted finished_draft number draft text pieces None more none;
}

-- ---- the lines of a listing are due

-- a target is due while one is missing
due_more : (count : ℕ) → targets_due (suc count) ≡ AtTargets (suc count)
due_more count = cond-false _ _ _ (ne_eqb (suc count) 0 (λ e. absurd (let h : suc count ≡ 0 = e in omega arith)))

targets_drafted : (draft : Draft) (targets : List ListedTarget)
    → drafted_lines (in_phase draft (targets_due (length targets))) (map TargetLine targets) ≡ Some (in_phase (record draft { targets = draft.targets ++ targets }) AtRanks)
targets_drafted draft [] = ap (λ (ts : List ListedTarget). Some (in_phase (record draft { targets = ts }) AtRanks)) (sym (append-nil draft.targets))
targets_drafted draft (target ∷ targets) =
    let less : suc (length targets) - 1 ≡ length targets = omega arith in
    let d : Draft = record draft { targets = draft.targets ++ target ∷ [] } in
    grind (arith, common_steps, due_more (length targets), append_assoc draft.targets (target ∷ []) targets, targets_drafted d targets)

ranks_drafted : (draft : Draft) (ranks : List Ranked)
    → drafted_lines (in_phase draft AtRanks) (map RankLine ranks) ≡ Some (in_phase (record draft { ranks = draft.ranks ++ ranks }) AtRanks)
ranks_drafted draft [] = ap (λ (rs : List Ranked). Some (in_phase (record draft { ranks = rs }) AtRanks)) (sym (append-nil draft.ranks))
ranks_drafted draft (ranked ∷ ranks) =
    ranks_drafted (record draft { ranks = draft.ranks ++ ranked ∷ [] }) ranks
    ∙ ap (λ (rs : List Ranked). Some (in_phase (record draft { ranks = rs }) AtRanks)) (append_assoc draft.ranks (ranked ∷ []) ranks)

abbrev body_of : List ListedTarget → List Ranked → Final → List Line
body_of targets ranks last = map TargetLine targets ++ (map RankLine ranks ++ FinalLine last ∷ [])

body_drafted : (draft : Draft) (targets : List ListedTarget) (ranks : List Ranked) (last : Final)
    → drafted_lines (in_phase draft (targets_due (length targets))) (body_of targets ranks last)
    ≡ Some (in_phase (record draft { targets = draft.targets ++ targets; ranks = draft.ranks ++ ranks }) (AtEnd last))
body_drafted draft targets ranks last =
    texts.drafted_append drafted_line (in_phase draft (targets_due (length targets))) (map TargetLine targets) (map RankLine ranks ++ FinalLine last ∷ []) _ (targets_drafted draft targets)
    ∙ texts.drafted_append drafted_line (in_phase (record draft { targets = draft.targets ++ targets }) AtRanks) (map RankLine ranks) (FinalLine last ∷ []) _ (ranks_drafted (record draft { targets = draft.targets ++ targets }) ranks)

-- a listing as a draft that has come to its end
abbrev whole : Listing → Draft
whole l = record { phase = AtEnd l.last; version = l.version; count = l.count; rules = l.rules; targets = l.targets; ranks = l.ranks }

headed : (version : Version) (rules : Rules) → IsUsualElse version rules → (targets : List ListedTarget) (ranks : List Ranked) (last : Final)
    → drafted_lines no_draft (ForkLine version (length targets) ∷ (rule_lines version rules ++ body_of targets ranks last))
    ≡ Some (record { phase = AtEnd last; version = version; count = length targets; rules = rules; targets = targets; ranks = ranks })
headed First rules usual targets ranks last =
    body_drafted (record no_draft { version = First; count = length targets }) targets ranks last
    ∙ ap (λ (r : Rules). Some (record { phase = AtEnd last; version = First; count = length targets; rules = r; targets = targets; ranks = ranks })) (sym usual)
headed Second rules usual targets ranks last =
    body_drafted (record no_draft { version = Second; count = length targets; rules = record usual_rules { preferred = rules.preferred } }) targets ranks last
    ∙ ap (λ (depth : ℕ). Some (record { phase = AtEnd last; version = Second; count = length targets; rules = record { preferred = rules.preferred; depth = depth }; targets = targets; ranks = ranks })) (sym usual)
headed Third rules usual targets ranks last =
    body_drafted (record no_draft { version = Third; count = length targets; rules = rules }) targets ranks last

listing_drafted : (l : Listing) → IsListing l → drafted_lines no_draft (lines_of l) ≡ Some (whole l)
listing_drafted l h =
    ap (λ n. drafted_lines no_draft (ForkLine l.version n ∷ (rule_lines l.version l.rules ++ body_of l.targets l.ranks l.last))) (sym h.counted)
    ∙ headed l.version l.rules h.usual l.targets l.ranks l.last
    ∙ ap (λ n. Some (record { phase = AtEnd l.last; version = l.version; count = n; rules = l.rules; targets = l.targets; ranks = l.ranks })) h.counted

pub listing_read : (l : Listing) → IsListing l → read_listing (listing_text l) ≡ Ok l
unfolding read_listing
listing_read l h =
    ap (λ (t : List ℕ). read_from 1 no_draft (slice_split (is 10) t)) (sym (append-nil (listing_text l)))
    ∙ read_lines reader 1 no_draft (lines_of l) [] (whole l) h.lines (listing_drafted l h)

listed_end : (number : ℕ) (l : Listing) (o : Option Listing) → or_line number o ≡ Ok l → o ≡ Some l
listed_end number l o e = grind arith

-- ---- lines that are due from the first to the last are those of a listing

abbrev listing_by : Draft → List ListedTarget → List Ranked → Final → Listing
listing_by draft targets ranks last = record { version = draft.version; count = draft.count; rules = draft.rules; targets = targets; ranks = ranks; last = last }

record RanksFound (draft : Draft) (lines : List Line) (l : Listing) : Type 0 where
  ranks : List Ranked
  last : Final
  spelled : lines ≡ map RankLine ranks ++ FinalLine last ∷ []
  same : listing_by draft draft.targets (draft.ranks ++ ranks) last ≡ l

at_end : (draft : Draft) (last : Final) (lines : List Line) (next : Draft) (l : Listing)
    → drafted_lines (in_phase draft (AtEnd last)) lines ≡ Some next → listing_in next next.phase ≡ Some l
    → (lines ≡ []) × (listing_by draft draft.targets draft.ranks last ≡ l)
at_end draft last [] next l due end = grind arith
at_end draft last (line ∷ lines) next l due end = absurd cc

at_ranks : (draft : Draft) (lines : List Line) (next : Draft) (l : Listing)
    → drafted_lines (in_phase draft AtRanks) lines ≡ Some next → listing_in next next.phase ≡ Some l → RanksFound draft lines l
at_ranks draft [] next l due end = grind arith
at_ranks draft (RankLine ranked ∷ lines) next l due end =
    let more = at_ranks (record draft { ranks = draft.ranks ++ ranked ∷ [] }) lines next l due end in
    grind (arith, common_steps, append_assoc)
at_ranks draft (FinalLine last ∷ lines) next l due end =
    let more = at_end draft last lines next l due end in
    record {
      ranks = [];
      last = last;
      spelled = ap (λ (ls : List Line). FinalLine last ∷ ls) more.0;
      same = ap (λ (rs : List Ranked). listing_by draft draft.targets rs last) (append-nil draft.ranks) ∙ more.1;
    }
at_ranks draft (line ∷ lines) next l due end = absurd cc

record TargetsFound (draft : Draft) (count : ℕ) (lines : List Line) (l : Listing) : Type 0 where
  targets : List ListedTarget
  ranks : List Ranked
  last : Final
  counted : length targets ≡ count
  spelled : lines ≡ body_of targets ranks last
  same : listing_by draft (draft.targets ++ targets) (draft.ranks ++ ranks) last ≡ l

at_more : (draft : Draft) (count : ℕ) (lines : List Line) (next : Draft) (l : Listing)
    → drafted_lines (in_phase draft (AtTargets (suc count))) lines ≡ Some next → listing_in next next.phase ≡ Some l
    → ((d : Draft) (others : List Line) → drafted_lines (in_phase d (targets_due count)) others ≡ Some next → TargetsFound d count others l)
    → TargetsFound draft (suc count) lines l
at_more draft count [] next l due end again = grind arith
at_more draft count (TargetLine target ∷ lines) next l due end again =
    let less : suc count - 1 ≡ count = omega arith in
    let d : Draft = record draft { targets = draft.targets ++ target ∷ [] } in
    let more = again d lines (ap (λ k. drafted_lines (in_phase d (targets_due k)) lines) (sym less) ∙ due) in
    grind (arith, common_steps, append_assoc)
at_more draft count (line ∷ lines) next l due end again = absurd cc

at_targets : (draft : Draft) (count : ℕ) (lines : List Line) (next : Draft) (l : Listing)
    → drafted_lines (in_phase draft (targets_due count)) lines ≡ Some next → listing_in next next.phase ≡ Some l → TargetsFound draft count lines l
at_targets draft zero lines next l due end =
    let more = at_ranks draft lines next l due end in
    record {
      targets = [];
      ranks = more.ranks;
      last = more.last;
      counted = refl;
      spelled = more.spelled;
      same = ap (λ (ts : List ListedTarget). listing_by draft ts (draft.ranks ++ more.ranks) more.last) (append-nil draft.targets) ∙ more.same;
    }
at_targets draft (suc count) lines next l due end =
    at_more draft count lines next l (ap (λ (p : ListingPhase). drafted_lines (in_phase draft p) lines) (sym (due_more count)) ∙ due) end
    (λ d others rest. at_targets d count others next l rest end)

-- the lines are those of the listing
record AreLinesOf (l : Listing) (lines : List Line) : Type 0 where
  spelled : lines ≡ lines_of l
  counted : length l.targets ≡ l.count
  usual : IsUsualElse l.version l.rules

behind_rules : (version : Version) (count : ℕ) (rules : Rules) (lines : List Line) (l : Listing) → IsUsualElse version rules
    → TargetsFound (record { phase = AtFork; version = version; count = count; rules = rules; targets = []; ranks = [] }) count lines l
    → AreLinesOf l (ForkLine version count ∷ (rule_lines version rules ++ lines))
behind_rules version count rules lines l usual found = grind arith

-- no listing ends here
ends_never : (draft next : Draft) (l : Listing) → listing_in draft draft.phase ≡ None → Some draft ≡ Some next → listing_in next next.phase ≡ Some l → ⊥
ends_never draft next l none due end = grind arith

abbrev forked : Version → ℕ → Draft
forked version count = record { phase = AtPrefer version count; version = version; count = count; rules = usual_rules; targets = []; ranks = [] }

second_lines : (count : ℕ) (lines : List Line) (next : Draft) (l : Listing)
    → drafted_lines (forked Second count) lines ≡ Some next → listing_in next next.phase ≡ Some l → AreLinesOf l (ForkLine Second count ∷ lines)
second_lines count [] next l due end = absurd (ends_never (forked Second count) next l refl due end)
second_lines count (PreferLine statuses ∷ lines) next l due end =
    let rules : Rules = record usual_rules { preferred = statuses } in
    grind (arith, common_steps, behind_rules Second count rules lines l refl, at_targets)
second_lines count (line ∷ lines) next l due end = absurd cc

abbrev preferring : ℕ → List ℕ → Draft
preferring count statuses = record { phase = AtDepth count; version = Third; count = count; rules = record usual_rules { preferred = statuses }; targets = []; ranks = [] }

depth_lines : (count : ℕ) (statuses : List ℕ) (lines : List Line) (next : Draft) (l : Listing)
    → drafted_lines (preferring count statuses) lines ≡ Some next → listing_in next next.phase ≡ Some l → AreLinesOf l (ForkLine Third count ∷ (PreferLine statuses ∷ lines))
depth_lines count statuses [] next l due end = absurd (ends_never (preferring count statuses) next l refl due end)
depth_lines count statuses (DepthLine depth ∷ lines) next l due end =
    let rules : Rules = record { preferred = statuses; depth = depth } in
    behind_rules Third count rules lines l tt
    (at_targets (record { phase = AtFork; version = Third; count = count; rules = rules; targets = []; ranks = [] }) count lines next l due end)
depth_lines count statuses (line ∷ lines) next l due end = absurd cc

third_lines : (count : ℕ) (lines : List Line) (next : Draft) (l : Listing)
    → drafted_lines (forked Third count) lines ≡ Some next → listing_in next next.phase ≡ Some l → AreLinesOf l (ForkLine Third count ∷ lines)
third_lines count [] next l due end = absurd (ends_never (forked Third count) next l refl due end)
third_lines count (PreferLine statuses ∷ lines) next l due end = depth_lines count statuses lines next l due end
third_lines count (line ∷ lines) next l due end = absurd cc

all_lines : (lines : List Line) (next : Draft) (l : Listing)
    → drafted_lines no_draft lines ≡ Some next → listing_in next next.phase ≡ Some l → AreLinesOf l lines
all_lines [] next l due end = absurd (ends_never no_draft next l refl due end)
all_lines (ForkLine First count ∷ lines) next l due end = grind (arith, common_steps, behind_rules First count usual_rules lines l refl, at_targets)
all_lines (ForkLine Second count ∷ lines) next l due end = second_lines count lines next l due end
all_lines (ForkLine Third count ∷ lines) next l due end = third_lines count lines next l due end
all_lines (line ∷ lines) next l due end = absurd cc

pub listing_found : (text : List ℕ) (l : Listing) → read_listing text ≡ Ok l → IsTextOf l text
unfolding read_listing
listing_found text l e =
    let f = texts.found reader 1 no_draft (slice_split (is 10) text) l e in
    let are = all_lines f.lines f.next l f.due (listed_end f.number l (listing_in f.next f.next.phase) f.end) in
    grind (arith, common_steps, join_with_byte-slice_split 10 text)

pub read_exactly : ReadExactly
read_exactly text l = (listing_found text l, λ h. ap read_listing h.0 ∙ listing_read l h.1)

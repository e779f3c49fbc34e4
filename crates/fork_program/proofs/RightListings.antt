-- The listing that the replay of a script ends in is right, and is answered with yes.
use Rattle.fork_program.proofs.Common.{◌≡◌, ◌≢◌, ◌≤◌, ℕ, List, [], ◌∷◌, ◌++◌, map, length, Option, Result, Ok, Err, refl, sym, ap, subst, ◌∙◌, arith, append_assoc, codes, ◌<◌, flat_map, AllByRecursion, usual_preferred, Table, most_targets, IsChoice}
use Rattle.fork_program.proofs.Common.{challenge_list, Event, Target, Irreflexive, preferred_found, ended, Verdict, CheckFault, IsListingOf, targets_of, IsRanking, TheChoiceIsFirst, RightTellsTheChoice, Line, IsLine, Script, Detail, ContactDetail}
use Rattle.fork_program.proofs.Common.{OtherDetail, ChallengeDetail, Told, Spelling, prefer_lines, depth_lines, target_line, detail_line, told_lines, IsSpelling, preferred_said, depth_said, offers_said, event_said, script_of, Spells, IsForkReplay}
use Rattle.fork_program.proofs.Common.{opened, closed, opening_text, outcomes_text, added_lines, IsAnswer, IsDone, TellsOneFinal, all_back, common_steps}
use Rattle.fork_rank.specs.Preferred.{IsPreferredList}
use Rattle.fork_model.specs.Range.{IsTargetInRange, IsOfferInRange, IsEventInRange}
use Rattle.fork_context.specs.declared.context.NewFault.TheVariants as setup
use Rattle.fork_context.specs.Led.{IsLedTo}
use Rattle.fork_listing.specs.declared.refusal.CheckFault.TheVariants as check
use Rattle.fork_listing.specs.Text.{listing_text}
use Rattle.fork_listing.specs.Listed.{listing_of}
use Rattle.fork_listing.specs.Accepted.{ListingsAreRight, RightTextsAreAccepted, IsOkElseNoMemory}
use Rattle.fork_program.specs.RightListing.{EndsInRightListing, ReplaysEndInRightListings, RightListingsAreShort, RightListingsAreAnsweredYes}
use Rattle.fork_program.proofs.laws.DraftedLines.{body_of, history_lines}
use Rattle.fork_program.proofs.Headline.{rules_stay, tells_one_final}
use Rattle.fork_program.proofs.ShortListings.{right_is_short}

-- ---- what a script says is in range

usual_list : IsPreferredList usual_preferred
usual_list = (preferred_found (codes "401,407,415,420,484") usual_preferred refl).1

preferred_is : (prefer : Option (List ℕ)) (more : List Line) → AllByRecursion IsLine (prefer_lines prefer ++ more) → IsPreferredList (preferred_said prefer)
preferred_is prefer more h = grind arith

depth_is : (depth : Option ℕ) (more : List Line) → AllByRecursion IsLine (depth_lines depth ++ more) → depth_said depth ≤ most_targets
depth_is depth more h = grind arith

targets_are : (targets : List Target) (more : List Line) → AllByRecursion IsLine (map target_line targets ++ more) → AllByRecursion IsTargetInRange targets
targets_are [] more h = tt
targets_are (target ∷ targets) more h = (h.0.0, targets_are targets more h.1)

offers_are : (details : List Detail) (more : List Line) → AllByRecursion IsLine (map detail_line details ++ more) → AllByRecursion IsOfferInRange (offers_said details)
offers_are [] more h = tt
offers_are (ContactDetail q name ∷ details) more h = (h.0.0, offers_are details more h.1)
offers_are (OtherDetail q text ∷ details) more h = (h.0.0, offers_are details more h.1)
offers_are (ChallengeDetail proxy value ∷ details) more h = offers_are details more h.1

abbrev said : Told → Event
said told = event_said told.event told.details

event_is : (told : Told) (more : List Line) → AllByRecursion IsLine (told_lines told ++ more) → IsEventInRange (said told)
event_is told more h = grind (arith, common_steps, offers_are)

events_are : (history : List Told) → AllByRecursion IsLine (flat_map told_lines history) → AllByRecursion IsEventInRange (map said history)
events_are [] h = tt
events_are (told ∷ history) h = grind (arith, common_steps, event_is, all_back, events_are history (all_back IsLine (told_lines told) (flat_map told_lines history) h))

spelled_leads : (s : Spelling) → IsSpelling s → s.targets ≢ [] → length s.targets ≤ most_targets → IsLedTo (closed (script_of s))
spelled_leads s h some few = grind (arith, common_steps, body_of, all_back, preferred_is, depth_is, targets_are, events_are, history_lines)

within : (most n : ℕ) → (most < n → ⊥) → n ≤ most
within most n never = omega (arith, never)

script_leads : (text printed : List ℕ) (script : Script) → Spells text script → IsForkReplay script printed → IsLedTo (closed script)
script_leads text printed script spells replay =
    let P : Script → Type 0 = λ s. IsLedTo (closed s) in
    let same : script_of spells.0 ≡ script = spells.2 in
    let targets : spells.0.targets ≡ script.targets = ap (λ (s : Script). s.targets) same in
    let some : spells.0.targets ≢ [] = λ none. replay.set_up setup.NoTargets (sym targets ∙ none) in
    let few : length script.targets ≤ most_targets = within most_targets (length script.targets) (replay.set_up setup.TooMany) in
    subst P same (spelled_leads spells.0 spells.1.0 some (subst (λ (ts : List Target). length ts ≤ most_targets) (sym targets) few))

-- ---- what it tells ends in a right listing

ends_right : RightTellsTheChoice → Irreflexive → ListingsAreRight → (script : Script) (printed : List ℕ) → IsLedTo (closed script) → IsDone script → TellsOneFinal script printed → EndsInRightListing (closed script).table printed
ends_right tells irreflexive listings_right script printed led done told =
    let t : Table = (closed script).table in
    let listed : List ℕ = listing_text (listing_of t told.ranks told.choice) in
    let added : List ℕ = added_lines (challenge_list t.rows told.choice) in
    let before : List ℕ = ended (opening_text (opened script).table) ++ outcomes_text (opened script) script.events told.outcomes in
    let listing : IsListingOf t listed = record {
      finished = done.0;
      failed = done.1;
      ranks = told.ranks;
      choice = told.choice;
      ranking = subst (λ rules. IsRanking rules (targets_of t.rows) told.ranks) (sym (rules_stay script)) told.ranking;
      chosen = subst (λ rules. IsChoice rules t.rows told.choice) (sym (rules_stay script)) told.chosen;
      spelled = refl;
    } in
    let right = listings_right (closed script) listed led listing in
    record {
      front = before ++ added;
      listed = listed;
      joined = told.spelled ∙ sym (append_assoc before added listed);
      listing = listing;
      verdict = right.0;
      right = right.1;
      short = right_is_short tells irreflexive listed right.0 right.1;
    }

pub replays_end_right : TheChoiceIsFirst → RightTellsTheChoice → Irreflexive → ListingsAreRight → ReplaysEndInRightListings
replays_end_right listed_first tells irreflexive listings_right text printed script spells replay done = grind (arith, common_steps, script_leads text printed script spells replay, tells_one_final listed_first script printed replay done, ends_right)

pub listings_are_short : RightTellsTheChoice → Irreflexive → RightListingsAreShort
listings_are_short tells irreflexive listed verdict right = right_is_short tells irreflexive listed verdict right

-- ---- and is answered with yes

pub answered_yes : RightTextsAreAccepted → RightListingsAreAnsweredYes
answered_yes accepted listed old new verdict status right answer = go answer.found (accepted listed verdict answer.found right answer.right) answer.printed.answer
  where
    go : (found : Result Verdict CheckFault) → IsOkElseNoMemory verdict found → IsAnswer found status answer.printed.line → (status ≡ 0) × (new ≡ old ++ ended (codes "yes"))
    go (Ok told) is line = (line.0, answer.printed.spelled ∙ ap (λ (text : List ℕ). old ++ ended text) line.1)
    go (Err check.NoMemory) is line = absurd line
    go (Err (check.Line n)) is line = absurd is
    go (Err (check.Tree n)) is line = absurd is
    go (Err (check.Order n)) is line = absurd is
    go (Err (check.Absent n)) is line = absurd is
    go (Err check.FinalLine) is line = absurd is

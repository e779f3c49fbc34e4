-- A text is spelled in one way, and two are read as one script where their spellings say the same.
use Rattle.fork_program.proofs.Common.{◌≡◌, ℕ, List, [], ◌∷◌, ◌++◌, map, Option, Some, None, Result, Ok, refl, sym, ap, ◌∙◌, append_assoc, flat_map, AllByRecursion, same_Some, cut, is, ended, Kind, Invite, Offer, Challenge, Event, Ring, Answer}
use Rattle.fork_program.proofs.Common.{Timeout, Fault, TimerC, GiveUp, Cancel, Target, Line, KindLine, PreferLine, DepthLine, TargetLine, EventLine, ContactLine, OtherLine, ChallengeLine, line_text, bare, IsLine, read_line, Script, Detail}
use Rattle.fork_program.proofs.Common.{ContactDetail, OtherDetail, ChallengeDetail, Told, Spelling, prefer_lines, depth_lines, target_line, detail_line, told_lines, lines_of, text_of, MayStandBehind, offers_said, challenges_said, event_said}
use Rattle.fork_program.proofs.Common.{IsSpelledAs, all_back, common_steps, arith}
use Rattle.sip_lex.proofs.laws.Cuts.{cut_again}
use Rattle.fork_program.specs.Script.{read_script}
use Rattle.fork_program.specs.Grammar.{SpelledOnce, TellTheSame, SayTheSame, ReadAlike}
use Rattle.fork_program.proofs.laws.SpelledLines.{line_read, line_lacks}
use Rattle.fork_program.proofs.laws.DraftedLines.{body_of, history_lines}
use Rattle.fork_program.proofs.SpelledScripts.{spelled_read}

-- ---- the lines of a text

-- a line, and what stands behind it
front_and_rest : (line : Line) (more : List ℕ) → IsLine line → cut (is 10) (ended (line_text line) ++ more) ≡ (line_text line, Some more)
front_and_rest line more h = ap (cut (is 10)) (append_assoc (line_text line) (10 ∷ []) more) ∙ cut_again 10 (line_text line) (Some more) (line_lacks line h)

ends_in_line : (line : Line) (more : List ℕ) → ended (line_text line) ++ more ≡ [] → ⊥
ends_in_line line more e = grind arith

lines_once : (lines others : List Line) → AllByRecursion IsLine lines → AllByRecursion IsLine others → text_of lines ≡ text_of others → lines ≡ others
lines_once [] [] h k e = refl
lines_once [] (other ∷ others) h k e = absurd (ends_in_line other (text_of others) (sym e))
lines_once (line ∷ lines) [] h k e = absurd (ends_in_line line (text_of lines) e)
lines_once (line ∷ lines) (other ∷ others) h k e =
    let cuts : (line_text line, Some (text_of lines)) ≡ (line_text other, Some (text_of others)) =
    sym (front_and_rest line (text_of lines) h.0) ∙ ap (cut (is 10)) e ∙ front_and_rest other (text_of others) k.0 in
    let fronts : line_text line ≡ line_text other = ap (λ (p : List ℕ × Option (List ℕ)). p.0) cuts in
    let first : line ≡ other = same_Some _ _ (sym (line_read line h.0) ∙ ap read_line fronts ∙ line_read other k.0) in
    let rest : lines ≡ others = lines_once lines others h.1 k.1 (same_Some _ _ (ap (λ (p : List ℕ × Option (List ℕ)). p.1) cuts)) in
    (λ i. first i ∷ rest i)

-- ---- the spelling is found again in its lines

abbrev details_in : List Line → List Detail
details_in [] = []
details_in (ContactLine q name ∷ lines) = ContactDetail q name ∷ details_in lines
details_in (OtherLine q text ∷ lines) = OtherDetail q text ∷ details_in lines
details_in (ChallengeLine proxy value ∷ lines) = ChallengeDetail proxy value ∷ details_in lines
details_in (_ ∷ lines) = []

abbrev history_in : List Line → List Told
history_in [] = []
history_in (EventLine event ∷ lines) = record { event = event; details = details_in lines } ∷ history_in lines
history_in (_ ∷ lines) = history_in lines

abbrev targets_in : List Line → List Target
targets_in (TargetLine q name ∷ lines) = record { key = name; q = q } ∷ targets_in lines
targets_in _ = []

abbrev prefer_in : List Line → Option (List ℕ)
prefer_in (PreferLine statuses ∷ lines) = Some statuses
prefer_in _ = None

abbrev behind_prefer : List Line → List Line
behind_prefer (PreferLine statuses ∷ lines) = lines
behind_prefer lines = lines

abbrev depth_in : List Line → Option ℕ
depth_in (DepthLine depth ∷ lines) = Some depth
depth_in _ = None

abbrev behind_depth : List Line → List Line
behind_depth (DepthLine depth ∷ lines) = lines
behind_depth lines = lines

abbrev body_in : Kind → Option (List ℕ) → Option ℕ → List Line → Spelling
body_in kind prefer depth lines = record { kind = kind; prefer = prefer; depth = depth; targets = targets_in lines; history = history_in lines }

abbrev rules_in : Kind → List Line → Spelling
rules_in kind lines = body_in kind (prefer_in lines) (depth_in (behind_prefer lines)) (behind_depth (behind_prefer lines))

abbrev spelling_in : List Line → Spelling
spelling_in (KindLine kind ∷ lines) = rules_in kind lines
spelling_in lines = rules_in Invite lines

details_found : (details : List Detail) (history : List Told) → details_in (map detail_line details ++ flat_map told_lines history) ≡ details
details_found [] [] = refl
details_found [] (told ∷ history) = refl
details_found (ContactDetail q name ∷ details) history = ap (λ (ds : List Detail). ContactDetail q name ∷ ds) (details_found details history)
details_found (OtherDetail q text ∷ details) history = ap (λ (ds : List Detail). OtherDetail q text ∷ ds) (details_found details history)
details_found (ChallengeDetail proxy value ∷ details) history = ap (λ (ds : List Detail). ChallengeDetail proxy value ∷ ds) (details_found details history)

past_details : (details : List Detail) (lines : List Line) → history_in (map detail_line details ++ lines) ≡ history_in lines
past_details [] lines = refl
past_details (ContactDetail q name ∷ details) lines = past_details details lines
past_details (OtherDetail q text ∷ details) lines = past_details details lines
past_details (ChallengeDetail proxy value ∷ details) lines = past_details details lines

history_found : (history : List Told) → history_in (flat_map told_lines history) ≡ history
history_found [] = refl
history_found (told ∷ history) = grind (arith, common_steps, details_found, past_details, history_found history)

past_targets : (targets : List Target) (lines : List Line) → history_in (map target_line targets ++ lines) ≡ history_in lines
past_targets [] lines = refl
past_targets (target ∷ targets) lines = past_targets targets lines

targets_found : (targets : List Target) (history : List Told) → targets_in (body_of targets history) ≡ targets
targets_found [] [] = refl
targets_found [] (told ∷ history) = refl
targets_found (target ∷ targets) history = ap (λ (ts : List Target). target ∷ ts) (targets_found targets history)

body_found : (s : Spelling) → body_in s.kind s.prefer s.depth (body_of s.targets s.history) ≡ s
body_found s = grind (arith, common_steps, body_of, targets_found, past_targets, history_found)

-- a body begins with no line of the rules
no_rules : (kind : Kind) (targets : List Target) (history : List Told) → rules_in kind (body_of targets history) ≡ body_in kind None None (body_of targets history)
no_rules kind [] [] = refl
no_rules kind [] (told ∷ history) = refl
no_rules kind (target ∷ targets) history = refl

no_depth : (kind : Kind) (statuses : List ℕ) (targets : List Target) (history : List Told)
    → rules_in kind (PreferLine statuses ∷ body_of targets history) ≡ body_in kind (Some statuses) None (body_of targets history)
no_depth kind statuses [] [] = refl
no_depth kind statuses [] (told ∷ history) = refl
no_depth kind statuses (target ∷ targets) history = refl

rules_found : (kind : Kind) (prefer : Option (List ℕ)) (depth : Option ℕ) (targets : List Target) (history : List Told)
    → rules_in kind (prefer_lines prefer ++ (depth_lines depth ++ body_of targets history)) ≡ body_in kind prefer depth (body_of targets history)
rules_found kind None None targets history = no_rules kind targets history
rules_found kind None (Some depth) targets history = refl
rules_found kind (Some statuses) None targets history = no_depth kind statuses targets history
rules_found kind (Some statuses) (Some depth) targets history = refl

spelling_found : (s : Spelling) → spelling_in (lines_of s) ≡ s
spelling_found s = rules_found s.kind s.prefer s.depth s.targets s.history ∙ body_found s

pub spelled_once : SpelledOnce
spelled_once text a b h k =
    let lines : lines_of a ≡ lines_of b = lines_once (lines_of a) (lines_of b) h.0.lines k.0.lines (sym h.1 ∙ k.1) in
    sym (spelling_found a) ∙ ap spelling_in lines ∙ spelling_found b

-- ---- what two spellings of one script share

-- an event as its own line has it, and what is said behind it
abbrev line_event : Event → Event
line_event (Answer n answer) = Answer n (bare answer.status)
line_event event = event

abbrev offers_in : Event → List Offer
offers_in (Answer n answer) = answer.offers
offers_in event = []

abbrev challenges_in : Event → List Challenge
challenges_in (Answer n answer) = answer.challenges
challenges_in event = []

event_found : (event : Event) (details : List Detail) → IsLine (EventLine event) → line_event (event_said event details) ≡ event
event_found (Ring n status) details h = refl
event_found (Answer n answer) details h = ap (Answer n) (sym h.3)
event_found (Timeout n) details h = refl
event_found (Fault n) details h = refl
event_found (TimerC n) details h = refl
event_found (GiveUp n) details h = refl
event_found Cancel details h = refl

offers_found : (event : Event) (details : List Detail) → MayStandBehind event details → offers_in (event_said event details) ≡ offers_said details
offers_found event details h = grind arith

challenges_found : (event : Event) (details : List Detail) → MayStandBehind event details → challenges_in (event_said event details) ≡ challenges_said details
challenges_found event details h = grind arith

abbrev said : Told → Event
said told = event_said told.event told.details

abbrev MayStand : Told → Type 0
MayStand told = MayStandBehind told.event told.details

cons_is : (a b : Event) (as_ bs : List Event) → a ∷ as_ ≡ b ∷ bs → (a ≡ b) × (as_ ≡ bs)
cons_is a b as_ bs e = (cc, cc)

tell_the_same : (a b : List Told) → AllByRecursion IsLine (flat_map told_lines a) → AllByRecursion IsLine (flat_map told_lines b) → AllByRecursion MayStand a → AllByRecursion MayStand b
    → map said a ≡ map said b → TellTheSame a b
tell_the_same [] [] h k m n e = tt
tell_the_same [] (b ∷ bs) h k m n e = absurd cc
tell_the_same (a ∷ others) [] h k m n e = absurd cc
tell_the_same (a ∷ others) (b ∷ bs) h k m n e =
    let parts = cons_is (said a) (said b) (map said others) (map said bs) e in
    let rest = tell_the_same others bs (all_back IsLine (told_lines a) (flat_map told_lines others) h) (all_back IsLine (told_lines b) (flat_map told_lines bs) k) m.1 n.1 parts.1 in (
      sym (event_found a.event a.details h.0) ∙ ap line_event parts.0 ∙ event_found b.event b.details k.0,
      sym (offers_found a.event a.details m.0) ∙ ap offers_in parts.0 ∙ offers_found b.event b.details n.0,
      sym (challenges_found a.event a.details m.0) ∙ ap challenges_in parts.0 ∙ challenges_found b.event b.details n.0,
      rest,
    )

-- and the other way
abbrev said_with : Event → List Offer → List Challenge → Event
said_with (Answer n answer) offers challenges = Answer n (record { status = answer.status; offers = offers; challenges = challenges })
said_with event offers challenges = event

said_so : (event : Event) (details : List Detail) → event_said event details ≡ said_with event (offers_said details) (challenges_said details)
said_so event details = grind arith

same_events : (a b : List Told) → TellTheSame a b → map said a ≡ map said b
same_events [] [] h = refl
same_events [] (b ∷ bs) h = absurd h
same_events (a ∷ others) [] h = absurd h
same_events (a ∷ others) (b ∷ bs) h = grind (arith, common_steps, said_so, same_events others bs h.3)

abbrev found_as : Script → Result Script ℕ
found_as s = Ok s

ok_is : {x y : Script} → found_as x ≡ found_as y → x ≡ y
ok_is e = cc

alike_say : (text other : List ℕ) (a b : Spelling) → IsSpelledAs text a → IsSpelledAs other b → read_script text ≡ read_script other → SayTheSame a b
alike_say text other a b h k e = grind (arith, common_steps, spelled_read text a h, spelled_read other b k, ok_is, tell_the_same, history_lines)

say_alike : (text other : List ℕ) (a b : Spelling) → IsSpelledAs text a → IsSpelledAs other b → SayTheSame a b → read_script text ≡ read_script other
say_alike text other a b h k same = grind (arith, common_steps, same_events, spelled_read)

pub read_alike : ReadAlike
read_alike text other a b h k = (alike_say text other a b h k, say_alike text other a b h k)

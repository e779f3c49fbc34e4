-- What a script spells: a line for each thing that it says, each ended by LF.
--
--     kind INVITE
--     prefer 401,407,415,420,484
--     depth 256
--     target 1000 a
--     answer 0 302
--     contact 500 b
--     challenge W Digest realm="x"
--
-- Where `prefer` or `depth` is left out, the usual one holds (RFC 3261 sections 16.5 and 16.7). There may be any number of
-- targets and of events. Right behind an answer stand its contacts and its challenges, in any order.
use Rattle.std.specs.Prelude.{◌≡◌, ℕ, Bool, List, [], ◌∷◌, ◌++◌, map, Option, Some, None}
use Rattle.std.specs.List.{flat_map, filter_map, AllByRecursion}
use Rattle.fork_model.specs.Table.{Kind, Offer, Challenge, most_targets}
use Rattle.fork_model.specs.Event.{Event, Answer}
use Rattle.fork_model.specs.History.{Target}
use Rattle.fork_rank.specs.Preferred.{usual_preferred}
use Rattle.fork_rank.specs.LineByLine.{lines_text}
use Rattle.fork_program.specs.Line.{Line, KindLine, PreferLine, DepthLine, TargetLine, EventLine, ContactLine, OtherLine, ChallengeLine, line_text, IsLine}
use Rattle.fork_program.specs.Script.{Script}

-- ---- what is written

-- behind an answer: a contact that may be tried, one that may not, a challenge
pub data Detail : Type 0 where
  ContactDetail : (q : ℕ) (name : List ℕ) → Detail
  OtherDetail : (q : ℕ) (text : List ℕ) → Detail
  ChallengeDetail : (proxy : Bool) (value : List ℕ) → Detail

-- an event, and what is written behind it
pub record Told : Type 0 where
  pub event : Event
  pub details : List Detail

pub record Spelling : Type 0 where
  pub kind : Kind
  pub prefer : Option (List ℕ)
  pub depth : Option ℕ
  pub targets : List Target
  pub history : List Told

-- ---- its lines

abbrev pub prefer_lines : Option (List ℕ) → List Line
prefer_lines None = []
prefer_lines (Some statuses) = PreferLine statuses ∷ []

abbrev pub depth_lines : Option ℕ → List Line
depth_lines None = []
depth_lines (Some depth) = DepthLine depth ∷ []

abbrev pub target_line : Target → Line
target_line target = TargetLine target.q target.key

abbrev pub detail_line : Detail → Line
detail_line (ContactDetail q name) = ContactLine q name
detail_line (OtherDetail q text) = OtherLine q text
detail_line (ChallengeDetail proxy value) = ChallengeLine proxy value

abbrev pub told_lines : Told → List Line
told_lines told = EventLine told.event ∷ map detail_line told.details

abbrev pub lines_of : Spelling → List Line
lines_of s =
    KindLine s.kind
    ∷ (prefer_lines s.prefer ++ (depth_lines s.depth ++ (map target_line s.targets ++ flat_map told_lines s.history)))

abbrev pub text_of : List Line → List ℕ
text_of lines = lines_text line_text lines

-- ---- what may stand in them

-- contacts and challenges come behind an answer alone
abbrev pub MayStandBehind : Event → List Detail → Type 0
MayStandBehind (Answer n answer) details = Unit {0}
MayStandBehind _ details = details ≡ []

pub record IsSpelling (s : Spelling) : Type 0 where
  pub lines : AllByRecursion IsLine (lines_of s)
  pub behind : AllByRecursion (λ told. MayStandBehind told.event told.details) s.history

-- ---- what they say

abbrev pub preferred_said : Option (List ℕ) → List ℕ
preferred_said None = usual_preferred
preferred_said (Some statuses) = statuses

abbrev pub depth_said : Option ℕ → ℕ
depth_said None = most_targets
depth_said (Some depth) = depth

abbrev pub offer_said : Detail → Option Offer
offer_said (ContactDetail q name) = Some (record { text = name; q = q; key = Some name })
offer_said (OtherDetail q text) = Some (record { text = text; q = q; key = None })
offer_said (ChallengeDetail proxy value) = None

abbrev pub challenge_said : Detail → Option Challenge
challenge_said (ContactDetail q name) = None
challenge_said (OtherDetail q text) = None
challenge_said (ChallengeDetail proxy value) = Some (record { proxy = proxy; value = value })

-- in the order of the lines
abbrev pub offers_said : List Detail → List Offer
offers_said details = filter_map offer_said details

abbrev pub challenges_said : List Detail → List Challenge
challenges_said details = filter_map challenge_said details

abbrev pub event_said : Event → List Detail → Event
event_said (Answer n answer) details =
    Answer n (record { status = answer.status; offers = offers_said details; challenges = challenges_said details })
event_said event details = event

abbrev pub script_of : Spelling → Script
script_of s = record {
  kind = s.kind;
  rules = record { preferred = preferred_said s.prefer; depth = depth_said s.depth };
  targets = s.targets;
  events = map (λ told. event_said told.event told.details) s.history;
}

-- ---- the text

abbrev pub IsSpelledAs : List ℕ → Spelling → Type 0
IsSpelledAs text s = IsSpelling s × (text ≡ text_of (lines_of s))

-- the text spells the script
abbrev pub Spells : List ℕ → Script → Type 0
Spells text script = (s : Spelling) × IsSpelledAs text s × (script_of s ≡ script)

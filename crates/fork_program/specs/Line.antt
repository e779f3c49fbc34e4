-- The lines of a script: what is forked, by which rules and to which targets, then what happens to the fork
-- (RFC 3261 sections 16.5 to 16.10). Words are separated by one space, numbers are decimal without leading zeros.
use Rattle.std.specs.Prelude.{◌≡◌, ◌≤◌, ◌<◌, ℕ, ◌&&◌, nat_le, Bool, true, false, IsTrue, List, [], ◌∷◌, ◌++◌, length, codes}
use Rattle.std.specs.List.{list_all}
use Rattle.std.specs.Fmt.{decimal}
use Rattle.fork_rank.specs.Preferred.{IsPreferredList}
pub use Rattle.fork_rank.specs.Field.{is_visible}
use Rattle.fork_rank.specs.Field.{most_q, most_number, numbered_text}
use Rattle.fork_rank.specs.RuleLines.{prefer_text, depth_text}
use Rattle.fork_model.specs.Table.{Kind, Invite, Other, most_targets}
use Rattle.fork_model.specs.Event.{Event, Ring, Answer, Timeout, Fault, TimerC, GiveUp, Cancel, FinalAnswer}

-- an event's answer has its contacts and its challenges on the lines behind it: a name that may be tried, or any other
-- text; a server's challenge or a proxy's
pub data Line : Type 0 where
  KindLine : Kind → Line
  PreferLine : (statuses : List ℕ) → Line
  DepthLine : (depth : ℕ) → Line
  TargetLine : (q : ℕ) (name : List ℕ) → Line
  EventLine : Event → Line
  ContactLine : (q : ℕ) (name : List ℕ) → Line
  OtherLine : (q : ℕ) (text : List ℕ) → Line
  ChallengeLine : (proxy : Bool) (value : List ℕ) → Line

abbrev pub kind_text : Kind → List ℕ
kind_text Invite = codes "INVITE"
kind_text Other = codes "OTHER"

-- whose challenge it is: a server's in WWW-Authenticate, a proxy's in Proxy-Authenticate (sections 20.27 and 20.44)
abbrev pub asker_text : Bool → List ℕ
asker_text false = codes "W"
asker_text true = codes "P"

abbrev pub event_text : Event → List ℕ
event_text (Ring n status) = codes "ring " ++ numbered_text n (decimal status)
event_text (Answer n answer) = codes "answer " ++ numbered_text n (decimal answer.status)
event_text (Timeout n) = codes "timeout " ++ decimal n
event_text (Fault n) = codes "fault " ++ decimal n
event_text (TimerC n) = codes "timerc " ++ decimal n
event_text (GiveUp n) = codes "giveup " ++ decimal n
event_text Cancel = codes "cancel"

-- how a line is spelled
abbrev pub line_text : Line → List ℕ
line_text (KindLine kind) = codes "kind " ++ kind_text kind
line_text (PreferLine statuses) = prefer_text statuses
line_text (DepthLine depth) = depth_text depth
line_text (TargetLine q name) = codes "target " ++ numbered_text q name
line_text (EventLine event) = event_text event
line_text (ContactLine q name) = codes "contact " ++ numbered_text q name
line_text (OtherLine q text) = codes "other " ++ numbered_text q text
line_text (ChallengeLine proxy value) = codes "challenge " ++ (asker_text proxy ++ 32 ∷ value)

abbrev pub is_printable : ℕ → Bool
is_printable b = nat_le 32 b && nat_le b 126

-- 1 to 64 bytes that show
abbrev pub is_name : List ℕ → Bool
is_name name = nat_le 1 (length name) && nat_le (length name) 64 && list_all is_visible name

abbrev pub is_text : List ℕ → Bool
is_text text = nat_le 1 (length text) && list_all is_printable text

-- the answer before its contacts and its challenges are known
abbrev pub bare : ℕ → FinalAnswer
bare status = record { status = status; offers = []; challenges = [] }

abbrev pub IsEventLine : Event → Type 0
IsEventLine (Ring n status) = (n ≤ most_number) × (100 ≤ status) × (status < 200)
IsEventLine (Answer n answer) =
    (n ≤ most_number) × (200 ≤ answer.status) × (answer.status < 700) × (answer ≡ bare answer.status)
IsEventLine (Timeout n) = n ≤ most_number
IsEventLine (Fault n) = n ≤ most_number
IsEventLine (TimerC n) = n ≤ most_number
IsEventLine (GiveUp n) = n ≤ most_number
IsEventLine Cancel = Unit {0}

-- what the parts of a line have to be
abbrev pub IsLine : Line → Type 0
IsLine (KindLine kind) = Unit {0}
IsLine (PreferLine statuses) = IsPreferredList statuses
IsLine (DepthLine depth) = depth ≤ most_targets
IsLine (TargetLine q name) = (q ≤ most_q) × IsTrue (is_name name)
IsLine (EventLine event) = IsEventLine event
IsLine (ContactLine q name) = (q ≤ most_q) × IsTrue (is_name name)
IsLine (OtherLine q text) = (q ≤ most_q) × IsTrue (is_text text)
IsLine (ChallengeLine proxy value) = IsTrue (is_text value)

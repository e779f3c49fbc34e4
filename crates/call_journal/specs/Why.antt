-- Why the answer that went up did, in words: whose it is, what sets it apart from all others that are stored, and how many those
-- are (RFC 3261 section 16.7 step 6).
use Rattle.std.specs.Prelude.{◌≡◌, ◌≢◌, ◌<◌, ◌≤◌, ℕ, ◌-◌, ◌==◌, ◌&&◌, nat_le, Bool, false, not, List, [], ◌++◌, codes, length, Option, slice_get, unwrap_or, if◌then◌else◌}
use Rattle.std.specs.Fmt.{decimal}
use Rattle.std.specs.List.{count_by, filter_map}
use Rattle.std.specs.Option.{option_map, option_map_or}
use Rattle.fork_model.specs.Table.{Row, Rules, StoredAnswer, Table, stored_of}
use Rattle.fork_model.specs.Rank.{Score, class_of, is_preferred, part_of}
use Rattle.fork_model.specs.Choice.{Choice, Best, Only503, NoAnswer408, HasScore, status_at, stored_at}
use Rattle.call_journal.specs.Head.{shown}

abbrev pub stored_status : Row → Option ℕ
stored_status row = option_map (λ (answer : StoredAnswer). answer.status) (stored_of row.state)

-- the statuses of all stored answers
abbrev pub stored_statuses : List Row → List ℕ
stored_statuses rows = filter_map stored_status rows

-- ---- what sets a status apart from all that are stored, itself among them: its class, its part within the class, its arrival

-- how many are of its class
abbrev pub same_class : List ℕ → ℕ → ℕ
same_class statuses status = count_by (λ other. class_of other == class_of status) statuses

-- but for their arrivals these two rank alike
abbrev pub is_alike : Rules → (other status : ℕ) → Bool
is_alike rules other status = class_of other == class_of status && part_of rules other == part_of rules status

-- how many rank as it does, but for their arrivals
abbrev pub ranked_alike : Rules → List ℕ → ℕ → ℕ
ranked_alike rules statuses status = count_by (λ other. is_alike rules other status) statuses

-- it is the only one of its class
abbrev pub class_words : ℕ → List ℕ
class_words status = if nat_le 600 status then codes "6xx before all others" else codes "lowest class"

-- it is the only one of its part of the class
abbrev pub part_words : ℕ → List ℕ
part_words status = if nat_le 500 status then codes "before 503 among 5xx" else codes "preferred among 4xx"

-- it came first of its part of the class
abbrev pub arrival_words : Rules → ℕ → List ℕ
arrival_words rules status =
    if nat_le 600 status then codes "earliest among 6xx"
    else (if nat_le 500 status then (if status == 503 then codes "earliest among 503" else codes "earliest among 5xx other than 503")
    else (if nat_le 400 status then (if is_preferred rules status then codes "earliest among preferred 4xx" else codes "earliest among 4xx")
    else codes "earliest among 3xx"))

abbrev pub reason : Rules → List ℕ → ℕ → List ℕ
reason rules statuses status =
    if nat_le (length statuses) 1 then codes "the only answer"
    else (if nat_le (same_class statuses status) 1 then class_words status
    else (if nat_le (ranked_alike rules statuses status) 1 then part_words status
    else arrival_words rules status))

-- row m has stored an answer with this score, and is another row than n
abbrev pub IsOther : List Row → (n m : ℕ) → Score → Type 0
IsOther rows n m other = (m ≢ n) × HasScore rows m other

-- what each reason says of the answer in row n, before which none ranks
pub record ReasonsAreRight (rules : Rules) (rows : List Row) (n : ℕ) (score : Score) : Type 0 where
  -- the only answer
  pub alone : length (stored_statuses rows) ≤ 1 → (m : ℕ) (other : Score) → IsOther rows n m other → ⊥
  -- the only one of its class: all others are of a higher one
  pub by_class :
      same_class (stored_statuses rows) score.status ≤ 1 → (m : ℕ) (other : Score) → IsOther rows n m other → class_of score.status < class_of other.status
  -- the only one of its part of the class: each other of the class is of a higher one
  pub by_part :
      ranked_alike rules (stored_statuses rows) score.status ≤ 1 → (m : ℕ) (other : Score) → IsOther rows n m other
      → class_of score.status ≡ class_of other.status → part_of rules score.status < part_of rules other.status
  -- no other of the same part of the class came earlier
  pub by_arrival :
      (m : ℕ) (other : Score) → IsOther rows n m other → class_of score.status ≡ class_of other.status → part_of rules score.status ≡ part_of rules other.status
      → score.arrival ≤ other.arrival

-- ---- the words

-- an answer that the proxy assumed came from no target
abbrev pub is_assumed : Option Row → Bool
is_assumed row = option_map_or (λ (answer : StoredAnswer). not answer.received) (stored_at row) false

abbrev pub source_words : Bool → List ℕ
source_words assumed = if assumed then codes " assumed for sip:" else codes " from sip:"

-- the target of row n as targets are compared (section 16.5): its URI behind the scheme, in lower case where case does not count,
-- and with its parameters in order
abbrev pub target_at : List Row → ℕ → List ℕ
target_at rows n = unwrap_or (option_map (λ (row : Row). row.key) (slice_get rows n)) []

abbrev pub source_text : List Row → ℕ → List ℕ
source_text rows n = source_words (is_assumed (slice_get rows n)) ++ shown (target_at rows n)

abbrev pub several_text : ℕ → List ℕ
several_text others = codes ", " ++ (decimal others ++ codes " others stored")

-- how many others are stored, where this many are in all
abbrev pub others_text : ℕ → List ℕ
others_text stored = if nat_le stored 1 then [] else (if stored == 2 then codes ", 1 other stored" else several_text (stored - 1))

-- of the answer that is stored in row n
abbrev pub answer_text : Table → ℕ → List ℕ
answer_text t n =
    source_text t.rows n
    ++ (codes ", "
    ++ (reason t.rules (stored_statuses t.rows) (status_at (slice_get t.rows n)) ++ others_text (length (stored_statuses t.rows))))

-- behind the status that went up
abbrev pub why_text : Table → Choice → List ℕ
why_text t (Best n) = answer_text t n
why_text t (Only503 n) = codes " in place of 503" ++ answer_text t n
why_text t NoAnswer408 = codes ", no answer stored"

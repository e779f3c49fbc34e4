-- What a replay prints: the rows that are tried at once, a line for each event that says what the proxy does on
-- it (RFC 3261 sections 16.6, 16.7 and 9.1), and how the fork stands at the end, with its listing where it is done.
use Rattle.std.specs.Prelude.{◌≡◌, ℕ, Bool, true, false, not, List, [], ◌∷◌, ◌++◌, filter, count_by, length, slice_get, codes}
use Rattle.std.specs.List.{flat_map}
use Rattle.std.specs.Fmt.{decimal}
use Rattle.fork_model.specs.Table.{Challenge, Row, Table, is_trying, is_ended, is_finished, is_succeeded, is_row}
use Rattle.fork_model.specs.Groups.{numbers_below}
use Rattle.fork_model.specs.Event.{Event}
use Rattle.fork_model.specs.Choice.{Choice, Best, Only503, NoAnswer408, IsChoice, status_at}
use Rattle.fork_model.specs.Challenges.{challenge_list}
use Rattle.fork_model.specs.Reply.{Up, Nothing, Provisional, Success, Final, Reply}
use Rattle.fork_model.specs.Core.{Core, Outcome, Full, Replied, opening_core, core_offered, core_after, AreOutcomes}
use Rattle.fork_listing.specs.declared.line.Ranked.{Ranked}
use Rattle.fork_listing.specs.declared.refusal.Verdict.{Verdict}
use Rattle.fork_listing.specs.Text.{listing_text}
use Rattle.fork_listing.specs.Ranking.{IsRanking}
use Rattle.fork_listing.specs.Listed.{targets_of, listing_of}
use Rattle.fork_listing.specs.Accepted.{IsRightText}
use Rattle.fork_rank.specs.PreferredText.{list_text}
use Rattle.fork_rank.specs.RuleLines.{ended}
use Rattle.fork_rank.specs.Field.{numbered_text}
use Rattle.fork_program.specs.Script.{Script}

-- the rows that are tried, by number
abbrev pub tried : List Row → List ℕ
tried rows = filter (λ n. is_row is_trying (slice_get rows n)) (numbers_below (length rows))

abbrev pub opening_text : Table → List ℕ
opening_text t = codes "opening start " ++ list_text (tried t.rows)

-- the status that goes up with the row that it comes from; a 503 goes up as a 500, no answer as a 408
abbrev pub final_text : List Row → Choice → List ℕ
final_text rows (Best n) = codes "final " ++ numbered_text (status_at (slice_get rows n)) (decimal n)
final_text rows (Only503 n) = codes "final 500 " ++ decimal n
final_text rows NoAnswer408 = codes "final 408 -"

abbrev pub up_text : List Row → Up → List ℕ
up_text rows Nothing = codes "-"
up_text rows (Provisional n) = codes "provisional " ++ decimal n
up_text rows (Success n) = codes "success " ++ decimal n
up_text rows (Final choice) = final_text rows choice

-- the event's position, the rows tried from now on, the rows cancelled from now on, what goes up
abbrev pub reply_text : List Row → Reply → List ℕ
reply_text rows reply =
    decimal reply.at
    ++ codes " start " ++ list_text reply.started
    ++ codes " cancel " ++ list_text reply.cancelled
    ++ codes " up " ++ up_text rows reply.up

-- an event that is refused since the history is full says so
abbrev pub outcome_text : List Row → Outcome → List ℕ
outcome_text rows Full = codes "full"
outcome_text rows (Replied reply) = reply_text rows reply

-- a line for each event, by the rows after it
abbrev pub outcomes_text : Core → List Event → List Outcome → List ℕ
outcomes_text core [] outcomes = []
outcomes_text core (event ∷ events) [] = []
outcomes_text core (event ∷ events) (outcome ∷ outcomes) =
    ended (outcome_text (core_offered core event).table.rows outcome)
    ++ outcomes_text (core_offered core event) events outcomes

-- how a fork stands: a 2xx came; so many branches have not ended; all have, these answers are stored, in order of rank,
-- and this one has gone up
pub data Ending : Type 0 where
  Succeeded : Ending
  Unfinished : (branches : ℕ) → Ending
  Listed : (ranks : List Ranked) → Choice → Ending

abbrev pub branches_left : List Row → ℕ
branches_left rows = count_by (λ row. not (is_ended row.state)) rows

abbrev pub IsEnding : Table → Ending → Type 0
IsEnding t Succeeded = is_succeeded t.rows ≡ true
IsEnding t (Unfinished branches) =
    (is_succeeded t.rows ≡ false) × (is_finished t.rows ≡ false) × (branches ≡ branches_left t.rows)
IsEnding t (Listed ranks choice) =
    (is_succeeded t.rows ≡ false)
    × (is_finished t.rows ≡ true)
    × IsRanking t.rules (targets_of t.rows) ranks
    × IsChoice t.rules t.rows choice

-- the header field that a challenge is a value of (sections 20.27 and 20.44)
abbrev pub field_name : Bool → List ℕ
field_name true = codes "Proxy-Authenticate"
field_name false = codes "WWW-Authenticate"

abbrev pub added_text : Challenge → List ℕ
added_text challenge = codes "add " ++ field_name challenge.proxy ++ codes ": " ++ challenge.value

-- a line for each challenge that goes up beside those of the chosen answer
abbrev pub added_lines : List Challenge → List ℕ
added_lines challenges = flat_map (λ challenge. ended (added_text challenge)) challenges

-- a fork whose final answer has gone up ends in what was added to it and in the listing
abbrev pub ending_lines : Table → Ending → List ℕ
ending_lines t Succeeded = ended (codes "succeeded")
ending_lines t (Unfinished branches) = ended (codes "unfinished " ++ decimal branches)
ending_lines t (Listed ranks choice) =
    added_lines (challenge_list t.rows choice) ++ listing_text (listing_of t ranks choice)

abbrev pub opened : Script → Core
opened script = opening_core script.kind script.rules script.targets

-- the context after the whole script
abbrev pub closed : Script → Core
closed script = core_after (opened script) script.events

abbrev pub replay_text : Script → List Outcome → Ending → List ℕ
replay_text script outcomes ending =
    ended (opening_text (opened script).table)
    ++ outcomes_text (opened script) script.events outcomes
    ++ ending_lines (closed script).table ending

-- the text is that of the outcomes of the script's events, one for each, and of the end that they lead to
pub record IsReplay (script : Script) (text : List ℕ) : Type 0 where
  pub outcomes : List Outcome
  pub ending : Ending
  pub right : AreOutcomes (opened script) script.events outcomes
  pub last : IsEnding (closed script).table ending
  pub spelled : text ≡ replay_text script outcomes ending

-- where it ends in a listing, that is one which a check accepts
abbrev pub IsAccepted : Table → Ending → Type 0
IsAccepted t Succeeded = Unit {0}
IsAccepted t (Unfinished branches) = Unit {0}
IsAccepted t (Listed ranks choice) = (verdict : Verdict) × IsRightText (listing_text (listing_of t ranks choice)) verdict

-- the text has grown by the lines that say how the fork stands
pub record EndsWith (t : Table) (old new : List ℕ) : Type 0 where
  pub ending : Ending
  pub right : IsEnding t ending
  pub accepted : IsAccepted t ending
  pub spelled : new ≡ old ++ ending_lines t ending

-- Whole histories: the opening table, the events in order, their replies (RFC 3261 sections 16.5 to 16.7).
use Rattle.std.specs.Prelude.{◌≡◌, ℕ, suc, ◌==◌, false, List, [], ◌∷◌, None, map, slice_get, if◌then◌else◌}
use Rattle.std.specs.List.{filter_map}
use Rattle.std.specs.Option.{option_map}
use Rattle.fork_model.specs.Table.{Kind, Rules, Row, Table, Idle, Trying}
use Rattle.fork_model.specs.Groups.{numbered}
use Rattle.fork_model.specs.Event.{Event}
use Rattle.fork_model.specs.Step.{next}
use Rattle.fork_model.specs.Choice.{Choice, IsChoice}
use Rattle.fork_model.specs.Reply.{Up, Nothing, Provisional, Success, Final, Reply, IsReply}

-- where a request may be sent: two targets are the same where their keys are equal; q is 0 to 1000
pub record Target : Type 0 where
  pub key : List ℕ
  pub q : ℕ

-- the row of an initial target; the first group is tried at once
abbrev pub first_row : ℕ → ℕ → Target → Row
first_row group place target = record {
  key = target.key;
  q = target.q;
  place = place;
  parent = None;
  group = group;
  state = if group == 0 then Trying else Idle;
}

abbrev pub opening_rows : List Target → List Row
opening_rows targets =
    filter_map (λ p. option_map (first_row p.0 p.1) (slice_get targets p.1)) (numbered (map (λ target. target.q) targets))

abbrev pub opening : Kind → Rules → List Target → Table
opening kind rules targets = record { kind = kind; rules = rules; closed = false; rows = opening_rows targets }

-- the table after these events, the first of which stands at this position
abbrev pub after : Table → ℕ → List Event → Table
after t at [] = t
after t at (event ∷ events) = after (next t event at) (suc at) events

abbrev pub table : Kind → Rules → List Target → List Event → Table
table kind rules targets events = after (opening kind rules targets) 0 events

-- these are replies to these events, one for each
abbrev pub AreReplies : Table → ℕ → List Event → List Reply → Type 0
AreReplies t at [] [] = Unit {0}
AreReplies t at [] (reply ∷ replies) = ⊥
AreReplies t at (event ∷ events) [] = ⊥
AreReplies t at (event ∷ events) (reply ∷ replies) =
    IsReply t event at reply × AreReplies (next t event at) (suc at) events replies

abbrev pub with_final : Up → List Choice → List Choice
with_final Nothing choices = choices
with_final (Provisional n) choices = choices
with_final (Success n) choices = choices
with_final (Final choice) choices = choice ∷ choices

-- the choices that went up as final answers
abbrev pub finals : List Reply → List Choice
finals [] = []
finals (reply ∷ replies) = with_final reply.up (finals replies)

-- exactly one final answer has gone up, and it is the choice of this table
abbrev pub OneFinal : Table → List Reply → Type 0
OneFinal t replies = (choice : Choice) × (finals replies ≡ choice ∷ []) × IsChoice t.rules t.rows choice

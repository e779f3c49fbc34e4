-- An event that a call posts to its book: the table goes on, its new rows get their destinations, and what goes up is owed to
-- the caller (RFC 3261 sections 16.5 and 16.7).
use Rattle.std.specs.Prelude.{◌≡◌, ℕ, false, map, List, [], ◌∷◌, ◌++◌, Option, Some, None, length, drop, slice_get}
use Rattle.std.specs.List.{filter_map}
use Rattle.std.specs.Option.{option_and_then}
use Rattle.fork_model.specs.Table.{Row}
use Rattle.fork_model.specs.Event.{Event}
use Rattle.fork_model.specs.Core.{is_full}
use Rattle.fork_model.specs.Reply.{Up, Nothing, Provisional, Success, Final, Reply, IsReply}
use Rattle.sip_text.specs.Text.{MessageText}
use Rattle.sip_uri.specs.Contact.{ContactText}
use Rattle.fork_model.specs.Log.{Log, added, core_of, table_of}
use Rattle.call_model.specs.OpenedRequest.{OpenedRequest, Destination, destination_to}
use Rattle.call_model.specs.Branch.{Branch}
use Rattle.call_model.specs.Server as server
use Rattle.call_model.specs.Call.{Call}

-- a call posts under this tag
abbrev pub call_tag : ℕ
call_tag = 0

-- ---- new rows

abbrev pub destination_of_contact : OpenedRequest → ContactText → Option Destination
destination_of_contact opened contact = option_and_then (destination_to opened) contact.uri

-- that of the contact at the row's place
abbrev pub destination_of_row : OpenedRequest → List ContactText → Row → Option Destination
destination_of_row opened contacts row = option_and_then (destination_of_contact opened) (slice_get contacts row.place)

abbrev pub destinations_of : OpenedRequest → List ContactText → List Row → List Destination
destinations_of opened contacts rows = filter_map (destination_of_row opened contacts) rows

-- ---- what goes up

abbrev pub passed : Option MessageText → List server.Owed
passed None = []
passed (Some response) = server.Passed response ∷ []

abbrev pub owed_by : Up → Option MessageText → List server.Owed
owed_by Nothing response = []
owed_by (Provisional n) response = passed response
owed_by (Success n) response = passed response
owed_by (Final choice) response = server.Final choice ∷ []

-- ---- the whole

-- the rows that a log has more than before
abbrev pub rows_more : Log → Log → List Row
rows_more old new = drop (length (table_of old).rows) (table_of new).rows

abbrev pub no_branch : Row → Option Branch
no_branch row = None

-- the call with a longer log: each new row gets its destination, by the contact at its place, and was not sent to yet
abbrev pub gone_on : Call → List ContactText → Log → Call
gone_on call contacts log = record call {
  log = log;
  destinations = call.destinations ++ destinations_of call.opened contacts (rows_more call.log log);
  branches = call.branches ++ map no_branch (rows_more call.log log);
}

abbrev pub owes : Call → List server.Owed → Call
owes call more = record call { server = record call.server { owed = call.server.owed ++ more } }

-- the book takes the event, which is that of a response with these contacts, if it is one; it answers so
pub record Posts (call : Call) (event : Event) (contacts : List ContactText) (response : Option MessageText) (reply : Reply) (new : Call) : Type 0 where
  pub taken : is_full (core_of call.log) event ≡ false
  pub reply_is : IsReply (table_of call.log) event (length call.log.history) reply
  pub follows : new ≡ owes (gone_on call contacts (added call.log call_tag event reply)) (owed_by reply.up response)

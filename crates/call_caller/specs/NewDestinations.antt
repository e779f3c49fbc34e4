-- How the new rows of a table get the destinations of their contacts: each takes that at its place, and no two stand at one
-- place (RFC 3261 sections 16.5 and 16.6).
use Rattle.std.specs.Prelude.{◌≡◌, ◌≢◌, ℕ, zero, suc, Bool, true, List, [], ◌∷◌, map, length, drop, Option, Some, None, is_some, slice_get}
use Rattle.std.specs.List.{AllByRecursion}
use Rattle.fork_model.specs.Table.{Row, Table}
use Rattle.fork_model.specs.Event.{Event}
use Rattle.fork_model.specs.Step.{next}
use Rattle.sip_text.specs.Text.{MessageText}
use Rattle.sip_uri.specs.Contact.{ContactText}
use Rattle.call_model.specs.OpenedRequest.{Destination}
use Rattle.call_model.specs.Call.{Call}
use Rattle.call_model.specs.Posting.{Posts}
use Rattle.fork_model.specs.Reply.{Reply}

abbrev pub joined : Option (Option Destination) → Option Destination
joined None = None
joined (Some destination) = destination

-- the destination at this place, if one is there
abbrev pub destination_in : List (Option Destination) → ℕ → Option Destination
destination_in destinations place = joined (slice_get destinations place)

-- the destinations without that at this place
abbrev pub without : List (Option Destination) → ℕ → List (Option Destination)
without [] place = []
without (destination ∷ destinations) zero = None ∷ destinations
without (destination ∷ destinations) (suc place) = destination ∷ without destinations place

-- how many are there
abbrev pub count_in : List (Option Destination) → ℕ
count_in [] = 0
count_in (None ∷ destinations) = count_in destinations
count_in (Some destination ∷ destinations) = suc (count_in destinations)

-- the destination at the row's place
abbrev pub destination_for : List (Option Destination) → Row → Option Destination
destination_for destinations row = destination_in destinations row.place

abbrev pub has_destination : List (Option Destination) → Row → Bool
has_destination destinations row = is_some (destination_for destinations row)

abbrev pub place_of : Row → ℕ
place_of row = row.place

-- this number is none of those
abbrev pub IsNone : List ℕ → ℕ → Type 0
IsNone xs x = AllByRecursion (λ y. x ≢ y) xs

-- no number stands there twice
abbrev pub Apart : List ℕ → Type 0
Apart [] = Unit {0}
Apart (x ∷ xs) = IsNone xs x × Apart xs

-- each of these rows has a destination, which is its own
pub record HaveDestinations (destinations : List (Option Destination)) (rows : List Row) : Type 0 where
  pub each : AllByRecursion (λ row. has_destination destinations row ≡ true) rows
  pub apart : Apart (map place_of rows)

-- so have the rows that an event adds, whatever the table
abbrev pub GivesDestinations : Event → List (Option Destination) → Type 0
GivesDestinations event destinations = (t : Table) (at : ℕ) → HaveDestinations destinations (drop (length t.rows) (next t event at).rows)

-- it is posted with these contacts, and answered at this position
abbrev pub PostsSaid : Call → Event → List ContactText → Option MessageText → ℕ → Call → Type 0
PostsSaid call event contacts response at new = (reply : Reply) × (reply.at ≡ at) × Posts call event contacts response reply new

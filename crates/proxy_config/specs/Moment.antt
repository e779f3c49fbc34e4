-- A setup as it is at a moment at which contacts are bound to a user by registrations (RFC 3261 sections 10 and 16.5).
use Rattle.std.specs.Prelude.{ℕ, Bool, List, [], ◌∷◌, ◌++◌, map, fold, Option, Some, None, if◌then◌else◌}
use Rattle.sip_uri.specs.declared.hop.Hop.{Hop}
use Rattle.sip_uri.specs.Reading.{read_uri}
use Rattle.sip_uri.specs.Uri.{Uri, requested}
use Rattle.proxy_config.specs.Parts.{may_follow, uri_if}
use Rattle.proxy_config.specs.Setup.{Location, Setup, Way, locations_of}

-- a contact that is bound: its URI as it is written, the key of that, its q in thousandths, and the hop by which it is reached
pub record BoundContact : Type 0 where
  pub uri : List ℕ
  pub key : List ℕ
  pub q : ℕ
  pub hop : Hop

-- ---- the targets of the user (section 16.5)

-- behind the others where it may follow them: a request can be sent there, it is not among them, and they are not as many as may be tried
abbrev pub with_next : (streams : Bool) → List Location → Location → List Location
with_next streams locations location = if may_follow streams locations location then locations ++ location ∷ [] else locations

-- with its URI as it stands in a request (section 19.1.1)
abbrev pub as_requested : Location → Location
as_requested location = record location { uri = requested location.uri }

abbrev pub bound_location : (user : List ℕ) (longest : ℕ) → BoundContact → Uri → Location
bound_location user longest contact uri = record { user = user; q = contact.q; uri = uri; hop = Some contact.hop; longest = longest }

abbrev pub with_uri : (streams : Bool) (user : List ℕ) (longest : ℕ) → List Location → BoundContact → Option Uri → List Location
with_uri streams user longest locations contact None = locations
with_uri streams user longest locations contact (Some uri) = with_next streams locations (bound_location user longest contact uri)

abbrev pub with_contact : (streams : Bool) (user : List ℕ) (longest : ℕ) → List Location → BoundContact → List Location
with_contact streams user longest locations contact = with_uri streams user longest locations contact (uri_if (read_uri contact.uri))

-- the locations of the user, in their order, and behind them the contacts, in theirs
abbrev pub targets_at : Setup → (user : List ℕ) → List BoundContact → List Location
targets_at setup user contacts =
    fold (with_contact setup.streams user setup.ring) (fold (with_next setup.streams) [] (map as_requested (locations_of user setup.locations))) contacts

-- for a request to the user
abbrev pub at_moment : (user : List ℕ) → List BoundContact → Setup → Setup
at_moment user contacts setup = record setup { locations = targets_at setup user contacts; ways = [] }

-- ---- the ways to the contacts (section 16.6 step 7)

abbrev pub way_of : BoundContact → Way
way_of contact = record { key = contact.key; hop = contact.hop }

-- for a request to a URI that is not of the domain: to one of the contacts, if it has the key of one
abbrev pub with_ways : List BoundContact → Setup → Setup
with_ways contacts setup = record setup { locations = []; ways = map way_of contacts }

-- Where the requests of a call that opens go, each to the target of its row (RFC 3261 sections 16.5 and 16.6).
use Rattle.std.specs.Prelude.{◌≡◌, Bool, List, map, Option, Some, option_map, slice_get}
use Rattle.std.specs.Option.{option_and_then}
use Rattle.fork_model.specs.Table.{Row}
use Rattle.sip_uri.specs.Uri.{requested}
use Rattle.call_model.specs.OpenedRequest.{Destination, destination_by, sized_hop}
use Rattle.proxy_routing.specs.Targets.{CandidateTarget}

abbrev pub destination_to : (large : Bool) → CandidateTarget → Option Destination
destination_to large candidate = destination_by (requested candidate.uri) (option_map (sized_hop large) candidate.hop) candidate.longest

-- the destination of the target that a row is for
abbrev pub destination_of_row : (large : Bool) → List CandidateTarget → Row → Option Destination
destination_of_row large cs row = option_and_then (destination_to large) (slice_get cs row.place)

-- each row has its destination
abbrev pub AreDestinations : (large : Bool) → List CandidateTarget → List Row → List Destination → Type 0
AreDestinations large cs rows destinations = map Some destinations ≡ map (destination_of_row large cs) rows

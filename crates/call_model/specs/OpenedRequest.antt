-- What a call is opened with, and no step changes (RFC 3261 sections 16.2 to 16.6).
use Rattle.std.specs.Prelude.{ℕ, Bool, List, [], Option, Some, None, option_map, if◌then◌else◌}
use Rattle.fork_model.specs.Table.{Kind, Invite, Other}
use Rattle.sip_text.specs.Method as methods
use Rattle.sip_text.specs.Text.{MessageText, StartText, Request, Response}
use Rattle.sip_uri.specs.declared.hop.Hop.{Hop}
use Rattle.sip_uri.specs.declared.hop.Transport.{Transport}
use Rattle.sip_uri.specs.declared.hop.Transport.TheVariants.{Udp, Tcp, Back}
use Rattle.sip_uri.specs.Hop.{hop_of}
use Rattle.sip_uri.specs.Uri.{Uri}
use Rattle.sip_branch.specs.declared.branch.BranchName.{BranchName}
use Rattle.sip_via.specs.declared.own.Own.{Own}
use Rattle.sip_route.specs.Loop.{loop_key}
use Rattle.call_model.specs.declared.tried_contacts.TriedContacts.{TriedContacts}

pub record OpenedRequest : Type 0 where
  pub number : ℕ
  pub own : Own
  pub instance : ℕ
  -- marked with its source (section 18.2.1), and without a Route value that names the proxy (section 16.4)
  pub request : MessageText
  -- where its answers go (section 18.2.2)
  pub caller : Hop
  -- the hop of its first Route value, if it has one
  pub route : Option Hop
  -- which contacts of a 3xx are tried: none where the proxy is not responsible for the Request-URI (section 16.5)
  pub tried : TriedContacts
  -- the value of the Record-Route line that its requests over UDP take, if they take one (section 16.6 step 4)
  pub record_route : Option (List ℕ)
  -- that of those over connections
  pub stream_record_route : Option (List ℕ)
  -- its 100 takes its Timestamp line (section 8.2.6.1)
  pub stamps : Bool
  -- its CANCELs say why they are sent (RFC 3326)
  pub reasons : Bool
  -- the longest time of the branches to contacts of a 3xx, in milliseconds
  pub ring : ℕ
  -- its requests are too large for datagrams, and go over connections instead (section 18.1.1)
  pub large : Bool

abbrev pub method_of : StartText → List ℕ
method_of (Request method uri) = method
method_of (Response status reason) = []

abbrev pub is_invite : OpenedRequest → Bool
is_invite opened = methods.is_invite (methods.known_method opened.request.start)

abbrev pub kind_of : OpenedRequest → Kind
kind_of opened = if is_invite opened then Invite else Other

-- what names the branch to target n: no two branches of the proxy have one name
abbrev pub branch_at : OpenedRequest → ℕ → BranchName
branch_at opened n =
    record { key = loop_key opened.request; instance = opened.instance; context = opened.number; target = n }

-- the value of the Record-Route line that its requests over this transport take
abbrev pub recorded_to : OpenedRequest → Transport → Option (List ℕ)
recorded_to opened Udp = opened.record_route
recorded_to opened Tcp = opened.stream_record_route
recorded_to opened (Back port) = opened.stream_record_route

-- where the request to a target goes: its URI, and the hop that leads there (section 16.6 steps 2, 6 and 7)
pub record Destination : Type 0 where
  pub uri : Uri
  pub hop : Hop
  -- how long an INVITE is waited for there at most, in milliseconds
  pub longest : ℕ

-- by the first Route value, if there is one, else by the URI
abbrev pub next_hop : Option Hop → Uri → Option Hop
next_hop (Some hop) uri = Some hop
next_hop None uri = hop_of uri

-- a connection in place of datagrams
abbrev pub by_connection : Transport → Transport
by_connection Udp = Tcp
by_connection Tcp = Tcp
by_connection (Back port) = Back port

-- the hop by which a request goes, that may be a large one, where this one leads (section 18.1.1)
abbrev pub sized_hop : (large : Bool) → Hop → Hop
sized_hop large hop = if large then record hop { transport = by_connection hop.transport } else hop

abbrev pub destination_by : Uri → Option Hop → (longest : ℕ) → Option Destination
destination_by uri None longest = None
destination_by uri (Some hop) longest = Some (record { uri = uri; hop = hop; longest = longest })

-- that of a contact of a 3xx
abbrev pub destination_to : OpenedRequest → Uri → Option Destination
destination_to opened uri = destination_by uri (option_map (sized_hop opened.large) (next_hop opened.route uri)) opened.ring

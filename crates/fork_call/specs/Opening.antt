-- How a call opens, and why it does not (RFC 3261 sections 16.2 to 16.6).
use Rattle.std.specs.Prelude.{◌≡◌, ◌≢◌, ℕ, nat_lt, Bool, ◌&&◌, not, true, false, codes, List, [], ◌∷◌, ◌++◌, length, Option, Some, None, option_map, Ok, if◌then◌else◌}
use Rattle.std.specs.Fmt.{decimal}
use Rattle.std.specs.List.{list_all}
use Rattle.fork_model.specs.History.{opening_rows}
use Rattle.fork_model.specs.Table.{Rules}
use Rattle.fork_model.specs.Log.{opening_log}
use Rattle.sip_text.specs.Method.{known_method, stands_alone}
use Rattle.sip_text.specs.Text.{MessageText, StartText, spelling}
use Rattle.sip_uri.specs.declared.hop.Hop.{Hop}
use Rattle.sip_uri.specs.declared.hop.Transport.{Transport}
use Rattle.sip_uri.specs.declared.hop.Transport.TheVariants.{Udp, Tcp, Back}
use Rattle.sip_uri.specs.Uri.{Uri}
use Rattle.sip_branch.specs.declared.branch.BranchName.{BranchName}
use Rattle.sip_via.specs.Received.{reply_of}
use Rattle.sip_via.specs.Address.{address_text}
use Rattle.sip_via.specs.declared.own.Own.{Own}
use Rattle.sip_via.specs.TopVia.{top_value}
use Rattle.sip_via.specs.ViaParts.{via_of}
use Rattle.sip_route.specs.Loop.{call_id, loop_key}
use Rattle.sip_route.specs.RouteValues.{first_route}
use Rattle.sip_build.specs.Dialogs.{opens_dialog}
use Rattle.sip_build.specs.Forwarding.{forwarded}
use Rattle.sip_digest.specs.Stamp.{token_text}
use Rattle.proxy_config.specs.declared.dialog_token.DialogToken.{DialogToken}
use Rattle.proxy_config.specs.Setup.{Setup, route_of}
use Rattle.call_model.specs.declared.tried_contacts.TriedContacts.{TriedContacts}
use Rattle.call_model.specs.declared.tried_contacts.TriedContacts.TheVariants.{Every, NoContacts, OverUdp}
use Rattle.call_model.specs.Begun.{begun}
use Rattle.call_model.specs.Call.{Call}
use Rattle.call_model.specs.OpenedRequest.{OpenedRequest, Destination, kind_of}
use Rattle.proxy_routing.specs.declared.fault.RequestRejection.{RequestRejection}
use Rattle.proxy_routing.specs.declared.fault.RequestRejection.TheVariants.{BadRequest, Scheme, Hops, Loop, Extension, NoTarget, NoHop, NoMemory}
use Rattle.proxy_routing.specs.Admission.{IsAdmitted, asks_extension, target_uri}
use Rattle.proxy_routing.specs.Refusing.{IsTurnedAway}
use Rattle.proxy_routing.specs.Unrouted.{IsGivenBack}
use Rattle.fork_call.specs.Destinations.{AreDestinations}
use Rattle.proxy_routing.specs.Targets.{CandidateTarget, candidates, has_hop, hop_if_any, is_domain, targets_of}

-- a request that opens a call: neither an ACK nor a CANCEL (sections 9.2 and 17.2.1)
abbrev pub IsOpenable : StartText → Type 0
IsOpenable start = stands_alone (known_method start) ≡ true

-- a transport is one of connections
abbrev pub is_stream : Transport → Bool
is_stream Udp = false
is_stream Tcp = true
is_stream (Back port) = true

-- what says in a URI that it is reached over TCP
abbrev pub transport_text : (stream : Bool) → List ℕ
transport_text false = []
transport_text true = codes ";transport=tcp"

-- `lr`, and a token behind that by which the proxy knows the requests of a dialog again, where there is one
abbrev pub route_end : (token : Option (List ℕ)) → List ℕ
route_end None = codes ";lr>"
route_end (Some token) = codes ";lr;d=" ++ (token ++ codes ">")

-- the URI of the proxy over a transport, with these behind it, in angle brackets
abbrev pub own_route_with : Own → (stream : Bool) → (token : Option (List ℕ)) → List ℕ
own_route_with own stream token =
    codes "<sip:" ++ (address_text own.addr ++ (58 ∷ (decimal own.port ++ (transport_text stream ++ route_end token))))

abbrev pub text_of_token : (call_id : List ℕ) → DialogToken → List ℕ
text_of_token id token = token_text token.secret id token.second

abbrev pub two_routes : Own → (first : Bool) → (token : Option (List ℕ)) → List ℕ
two_routes own first token = own_route_with own first token ++ (codes ", " ++ own_route_with own (not first) token)

-- of a request that came over one transport and goes on over another: that of the second stands first, and where the two differ that of the
-- first behind it (RFC 5658 section 4)
abbrev pub dialog_routes : Own → (from to : Bool) → (token : Option (List ℕ)) → List ℕ
dialog_routes own false false token = own_route_with own false token
dialog_routes own true true token = own_route_with own true token
dialog_routes own true false token = two_routes own false token
dialog_routes own false true token = two_routes own true token

-- a setup with this token in place of its own, where there is one
abbrev pub with_token : Option DialogToken → Setup → Setup
with_token None setup = setup
with_token (Some token) setup = record setup { token = Some token }

-- the value of the Record-Route line by which the proxy stays on the path of the dialog that the request opens, which came over one transport
-- and goes on over another, where it is to (section 16.6 step 4)
abbrev pub record_route_of : Setup → MessageText → (from to : Bool) → Option (List ℕ)
record_route_of setup request from to =
    if setup.records && opens_dialog request then Some (dialog_routes (route_of setup) from to (option_map (text_of_token (call_id request)) setup.token)) else None

-- that of a request that goes on over a connection, where there are any
abbrev pub stream_record_route_of : (streams : Bool) → Setup → MessageText → (from : Bool) → Option (List ℕ)
stream_record_route_of streams setup request from = if streams then record_route_of setup request from true else None

-- which contacts of a 3xx are tried: none where the proxy is not responsible for the Request-URI (section 16.5), and those over
-- UDP alone where it has no streams
abbrev pub tried_by : (responsible streams : Bool) → TriedContacts
tried_by false streams = NoContacts
tried_by true false = OverUdp
tried_by true true = Every

-- the request to this URI as it goes on over UDP, by the branch to target 0 of call 0, with this Record-Route value, if there is one
abbrev pub datagram_of : Setup → MessageText → Uri → (record_route : Option (List ℕ)) → List ℕ
datagram_of setup request uri recorded =
    let branch : BranchName = record { key = loop_key request; instance = setup.instance; context = 0; target = 0 } in
    spelling (forwarded request uri setup.own branch recorded)

-- whether requests to targets go over connections: where there are streams, the setup says so, and that one is of more than 1,300 bytes
-- (section 18.1.1)
abbrev pub large_of : Setup → MessageText → Uri → (record_route : Option (List ℕ)) → Bool
large_of setup request uri recorded = (setup.streams && setup.large) && nat_lt 1300 (length (datagram_of setup request uri recorded))

-- the request came by a connection, as its answers go by one
abbrev pub came_by_stream : MessageText → Hop → Bool
came_by_stream request source = is_stream (reply_of (via_of (top_value request)) source).transport

-- what the request to this URI, as it was prepared, opens with; its answers go where its top Via value says (section
-- 18.2.2), and the proxy is responsible for a URI of its domain (section 16.5)
abbrev pub opened_of : Setup → ℕ → MessageText → Hop → Uri → OpenedRequest
opened_of setup number request source uri = record {
  number = number;
  own = setup.own;
  instance = setup.instance;
  request = request;
  caller = reply_of (via_of (top_value request)) source;
  route = hop_if_any setup.streams (first_route request);
  tried = tried_by (is_domain setup uri) setup.streams;
  record_route = record_route_of setup request (came_by_stream request source) false;
  stream_record_route = stream_record_route_of setup.streams setup request (came_by_stream request source);
  stamps = setup.stamps;
  reasons = setup.reasons;
  ring = setup.ring;
  large = large_of setup request uri (record_route_of setup request (came_by_stream request source) false);
}

-- a fork to these targets, of which nothing was sent yet
abbrev pub IsBegun : Rules → OpenedRequest → List CandidateTarget → Call → Type 0
IsBegun rules opened cs call =
    (destinations : List Destination)
    × AreDestinations opened.large cs (opening_rows (targets_of cs)) destinations
    × (call ≡ begun opened (opening_log (kind_of opened) rules (targets_of cs)) destinations)

-- ---- the first fault, or the call

-- where the request may be sent, by its first Route value or by the targets themselves
abbrev pub candidates_for : Setup → MessageText → Uri → List CandidateTarget
candidates_for setup request uri = candidates setup (first_route request) uri

-- why a request as it was prepared is not sent on to the targets that its URI leads to (sections 16.5 and 16.6)
abbrev pub IsUnreachable : Setup → MessageText → Uri → RequestRejection → Type 0
IsUnreachable setup request uri NoTarget = candidates_for setup request uri ≡ []
IsUnreachable setup request uri NoHop =
    (candidates_for setup request uri ≢ []) × (list_all has_hop (candidates_for setup request uri) ≡ false)
-- the others come before these steps
IsUnreachable setup request uri _ = ⊥

-- or it is, as this call
pub record Reaches (setup : Setup) (number : ℕ) (request : MessageText) (source : Hop) (uri : Uri) (call : Call) : Type 0 where
  pub some : candidates_for setup request uri ≢ []
  pub hops : list_all has_hop (candidates_for setup request uri) ≡ true
  pub begins : IsBegun setup.rules (opened_of setup number request source uri) (candidates_for setup request uri) call

-- it asks for no extension (section 16.3 step 5), and this is the URI that it names
abbrev pub Asks : MessageText → (Uri → Type 0) → Type 0
Asks request P = (asks_extension request ≡ false) × (uri : Uri) × (target_uri request ≡ Ok uri) × P uri

-- the first fault behind the first four steps of section 16.3
abbrev pub IsRefused : Setup → MessageText → RequestRejection → Type 0
IsRefused setup request Extension = asks_extension request ≡ true
IsRefused setup request NoTarget = Asks request (λ uri. IsUnreachable setup request uri NoTarget)
IsRefused setup request NoHop = Asks request (λ uri. IsUnreachable setup request uri NoHop)
IsRefused setup request _ = ⊥

-- for the request as it was prepared behind these four
abbrev pub Admitted : Setup → MessageText → Hop → (MessageText → Type 0) → Type 0
Admitted setup m source P = (request : MessageText) × IsAdmitted setup m source request × P request

-- each fault, where none before it holds
abbrev pub Refuses : Setup → MessageText → Hop → RequestRejection → Type 0
Refuses setup m source BadRequest = IsTurnedAway setup m source BadRequest
Refuses setup m source Scheme = IsTurnedAway setup m source Scheme
Refuses setup m source Hops = IsTurnedAway setup m source Hops
Refuses setup m source Loop = IsTurnedAway setup m source Loop
Refuses setup m source Extension = Admitted setup m source (λ request. IsRefused setup request Extension)
Refuses setup m source NoTarget = Admitted setup m source (λ request. IsRefused setup request NoTarget)
Refuses setup m source NoHop = Admitted setup m source (λ request. IsRefused setup request NoHop)
Refuses setup m source NoMemory = Unit {0}

-- with what the request is given back as
abbrev pub IsRefusedFor : Setup → MessageText → Hop → RequestRejection → MessageText → Type 0
IsRefusedFor setup m source fault back = Refuses setup m source fault × IsGivenBack setup m source fault back

-- or the call, where none holds
abbrev pub Opens : Setup → ℕ → MessageText → Hop → Call → Type 0
Opens setup number m source call =
    Admitted setup m source (λ request. Asks request (λ uri. Reaches setup number request source uri call))

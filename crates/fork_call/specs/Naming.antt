-- What the datagrams of a call that opened are made of, back to the request that came (RFC 3261 sections 8.2.6, 16.4, 16.6 and
-- 18.2.1).
use Rattle.std.specs.Prelude.{◌≡◌, ℕ, Ok, Some, option_map, slice_get}
use Rattle.fork_model.specs.Table.{Row}
use Rattle.sip_text.specs.Text.{MessageText, spelling}
use Rattle.sip_uri.specs.declared.hop.Hop.{Hop}
use Rattle.sip_uri.specs.Uri.{Uri, requested}
use Rattle.sip_via.specs.Received.{marked}
use Rattle.sip_build.specs.declared.responses.OwnStatus.{OwnStatus}
use Rattle.sip_build.specs.Forwarding.{to_target}
use Rattle.call_model.specs.declared.cause.Cause.TheVariants as cause
use Rattle.call_model.specs.Built.{Datagram, generated, request_to}
use Rattle.call_model.specs.Call.{Call, rows_of}
use Rattle.call_model.specs.OpenedRequest.{OpenedRequest, Destination, sized_hop}
use Rattle.proxy_config.specs.Setup.{Setup}
use Rattle.proxy_routing.specs.Admission.{target_uri}
use Rattle.proxy_routing.specs.Targets.{CandidateTarget}
use Rattle.fork_call.specs.Opening.{Opens, candidates_for}

-- each answer of the proxy's own is that to the request as it was marked with its source, though the call keeps it without the
-- Route values and the credentials that the proxy takes away
abbrev pub OwnAnswersAreToTheRequest : Type 0
OwnAnswersAreToTheRequest =
    (setup : Setup) (number : ℕ) (m : MessageText) (source : Hop) (call : Call) (status : OwnStatus) → Opens setup number m source call
    → (request : MessageText) × (marked m source ≡ Ok request) × (generated call.opened status ≡ generated (record call.opened { request = request }) status)

-- a request that goes to a target by its destination names the Request-URI of that target as it was given, though the destination has it as it
-- stands in a request
abbrev pub RequestsNameTheirTargets : Type 0
RequestsNameTheirTargets =
    (opened : OpenedRequest) (destination : Destination) (n : ℕ) (target : Uri) → destination.uri ≡ requested target → (request_to opened destination n).start ≡ to_target opened.request.start target

-- ---- the targets that a call began with (sections 16.5 and 16.6)

-- the target that row n of a call is for, which has just opened: one of those that its Request-URI leads to
pub record IsTargetOf (setup : Setup) (call : Call) (n : ℕ) (target : CandidateTarget) : Type 0 where
  pub uri : Uri
  pub uri_is : target_uri call.opened.request ≡ Ok uri
  pub row : Row
  pub row_is : slice_get (rows_of call) n ≡ Some row
  pub target_is : slice_get (candidates_for setup call.opened.request uri) row.place ≡ Some target

-- that by which branch n is sent to leads to its target: to the hop of the target, by a connection where the request is a large one, as
-- long as that may take, and the request that goes there names the Request-URI of the target as it was given
pub record LeadsToTarget (setup : Setup) (call : Call) (n : ℕ) (destination : Destination) : Type 0 where
  pub target : CandidateTarget
  pub of_row : IsTargetOf setup call n target
  pub uri : destination.uri ≡ requested target.uri
  pub hop : option_map (sized_hop call.opened.large) target.hop ≡ Some destination.hop
  pub longest : destination.longest ≡ target.longest
  pub names : (request_to call.opened destination n).start ≡ to_target call.opened.request.start target.uri

abbrev pub DestinationsLeadToTargets : Type 0
DestinationsLeadToTargets =
    (setup : Setup) (number : ℕ) (m : MessageText) (source : Hop) (call : Call) (n : ℕ) (destination : Destination) → Opens setup number m source call
    → slice_get call.destinations n ≡ Some destination → LeadsToTarget setup call n destination

-- a datagram that is the request to one of them is that request, and goes to the hop of the target
pub record IsRequestTo (setup : Setup) (call : Call) (n : ℕ) (destination : Destination) (d : Datagram) : Type 0 where
  pub leads : LeadsToTarget setup call n destination
  pub hop : d.to ≡ destination.hop
  pub bytes : d.bytes ≡ spelling (request_to call.opened destination n)

abbrev pub GoesToTarget : Setup → Call → Datagram → Type 0
GoesToTarget setup call d =
    (n : ℕ) (destination : Destination) → d.cause ≡ cause.Request n → slice_get call.destinations n ≡ Some destination → IsRequestTo setup call n destination d

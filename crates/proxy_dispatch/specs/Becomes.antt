-- What becomes of a datagram that a proxy receives, what is seen of the table of calls meanwhile, and what is sent at once (RFC 3261
-- sections 16.2, 16.7 step 1, 16.10, 16.11, 17.1.3, 17.2.3 and 18).
use Rattle.std.specs.Prelude.{◌≡◌, ◌⊎◌, ℕ, Bool, true, false, List, [], ◌∷◌, Option, Some, None, Result, Ok, Err}
use Rattle.sip_text.specs.Grammar.{IsText}
use Rattle.sip_text.specs.Reading.{Fault, Short}
use Rattle.sip_text.specs.Refusal.{IsRefused}
use Rattle.sip_text.specs.Text.{MessageText}
use Rattle.sip_uri.specs.declared.hop.Hop.{Hop}
use Rattle.sip_branch.specs.declared.branch.BranchName.{BranchName}
use Rattle.sip_via.specs.declared.own.ViaFault.{ViaFault}
use Rattle.sip_branch.specs.BranchText.{IsBranch}
use Rattle.sip_via.specs.OwnPass.{IsOwnBranch}
use Rattle.sip_via.specs.Received.{marked}
use Rattle.sip_via.specs.TopVia.{top_value}
use Rattle.sip_route.specs.RequestKey.{request_key}
use Rattle.sip_build.specs.declared.responses.OwnStatus.{OwnStatus}
use Rattle.sip_build.specs.declared.responses.OwnStatus.TheVariants as own
use Rattle.sip_build.specs.Generated.{code_of}
use Rattle.proxy_config.specs.Setup.{Setup}
use Rattle.call_model.specs.Built.{Datagram}
use Rattle.call_model.specs.Call.{Call}
use Rattle.call_model.specs.SeenTaken.{seen_taken}
use Rattle.call_model.specs.Take.{Full}
use Rattle.call_model.specs.declared.taken.Taken.{Taken}
use Rattle.proxy_routing.specs.declared.fault.RequestRejection.{RequestRejection}
use Rattle.proxy_routing.specs.Admission.{IsPrepared}
use Rattle.proxy_routing.specs.Refusing.{status_of_fault}
use Rattle.call_state.specs.Matching.{BelongsToNone}
use Rattle.fork_call.specs.Opening as opening
use Rattle.fork_call.specs.Opening.{Refuses}
use Rattle.fork_call.specs.Prepared.{IsPreparedAs, Prepared, is_found_first}
use Rattle.fork_call.specs.Takes.{Takes}
use Rattle.proxy_dispatch.specs.declared.datagrams.Handled.{Handled}
use Rattle.proxy_dispatch.specs.declared.datagrams.Handled.TheVariants.{Dropped, Absorbed, Answered, TurnedAway, Forwarded, Opened, Delivered, Left}
use Rattle.proxy_dispatch.specs.declared.admission.Opener.{Opener}
use Rattle.proxy_dispatch.specs.declared.admission.Opener.TheVariants as openers
use Rattle.proxy_dispatch.specs.declared.purpose.RequestKind.{RequestKind}
use Rattle.proxy_dispatch.specs.declared.purpose.RequestKind.TheVariants.{Ack, Cancel, Opening}
use Rattle.authentication.specs.Answer.{Answer}
use Rattle.proxy_routing.specs.Admission.{asks_extension, has_via}
use Rattle.proxy_dispatch.specs.Admitting.{Answers, Decision, Leaves, Opens, Serving, opener_of}
use Rattle.proxy_dispatch.specs.Asking.{asks_service}
use Rattle.proxy_dispatch.specs.Looks.{Look, Found, Seen, Missed, Put, Spent}
use Rattle.proxy_dispatch.specs.Purpose.{is_fault_answered, purpose_of}
use Rattle.proxy_dispatch.specs.Passing.{HasOwnTag, Passes}
use Rattle.proxy_dispatch.specs.Sent.{answer_of, capabilities_to, unavailable_to}

-- ---- a message for a call

-- the call took it, by the one transaction that it belongs to (sections 17.1.3 and 17.2.3), and did nothing else
pub record IsTaken (number : ℕ) (m : MessageText) (source : Hop) (now : ℕ) (looks : List Look) : Type 0 where
  pub before : Call
  pub after : Call
  pub taken : Taken
  pub seen : looks ≡ Seen number before after ∷ []
  pub number_is : before.opened.number ≡ number
  pub takes : Takes before now m source (seen_taken taken) after

-- the call did not take it and stays as it is: it belongs to none of its transactions, or the book takes no more events that change
-- nothing
pub record IsLeft (number : ℕ) (m : MessageText) (source : Hop) (now : ℕ) (looks : List Look) : Type 0 where
  pub call : Call
  pub seen : looks ≡ Seen number call call ∷ []
  pub number_is : call.opened.number ≡ number
  pub why : BelongsToNone call m ⊎ Takes call now m source Full call

-- by one look at the call of that number
abbrev pub IsGiven : ℕ → MessageText → Hop → ℕ → List Look → Handled → Option Datagram → Type 0
IsGiven number m source now looks (Delivered given) sent = (given ≡ number) × IsTaken number m source now looks × (sent ≡ None)
IsGiven number m source now looks Dropped sent = ((looks ≡ Missed number ∷ []) ⊎ IsLeft number m source now looks) × (sent ≡ None)
IsGiven number m source now looks _ sent = ⊥

-- ---- a response

-- its top Via value is one that this run of the proxy put, for the call of that number (section 16.7 step 1)
abbrev pub IsHome : Setup → ℕ → MessageText → Type 0
IsHome setup number m =
    (branch : BranchName)
    × IsBranch branch
    × IsOwnBranch setup.own (top_value m) branch
    × (branch.instance ≡ setup.instance)
    × (branch.context ≡ number)

-- it is given to the call that it names, and dropped where it names none (section 18.1.2)
abbrev pub ResponseBecomes : Setup → MessageText → Hop → ℕ → List Look → Handled → Option Datagram → Type 0
ResponseBecomes setup m source now looks handled sent =
    ((number : ℕ) × IsHome setup number m × IsGiven number m source now looks handled sent)
    ⊎ (((number : ℕ) → IsHome setup number m → ⊥) × (looks ≡ []) × (handled ≡ Dropped) × (sent ≡ None))

-- ---- a request whose key no call has

abbrev pub IsAnswered : MessageText → Hop → OwnStatus → Handled → Option Datagram → Type 0
IsAnswered m source status handled sent = (handled ≡ Answered (code_of status)) × (sent ≡ Some (answer_of m source status []))

-- an ACK of an answer of the proxy's own is absorbed (section 17.2.1); any other goes on, or is stopped (section 16.11)
abbrev pub AckBecomes : Setup → MessageText → Hop → Handled → Option Datagram → Type 0
AckBecomes setup m source Absorbed sent = HasOwnTag m × (sent ≡ None)
AckBecomes setup m source Forwarded sent = (HasOwnTag m → ⊥) × (datagram : Datagram) × (sent ≡ Some datagram) × Passes setup m source (Some datagram)
AckBecomes setup m source Dropped sent = (HasOwnTag m → ⊥) × Passes setup m source None × (sent ≡ None)
AckBecomes setup m source _ sent = ⊥

-- it opens a call under its key
pub record IsOpened (setup : Setup) (m : MessageText) (source : Hop) (key : List ℕ) (looks : List Look) (handled : Handled) (sent : Option Datagram) : Type 0 where
  pub number : ℕ
  pub call : Call
  pub opens : opening.Opens setup number m source call
  pub seen : looks ≡ Put key number call ∷ []
  pub handled_is : handled ≡ Opened number
  pub sent_is : sent ≡ None

-- it opens none, and is answered by the first reason for which it does not (section 16.3)
pub record IsRejected (setup : Setup) (m : MessageText) (source : Hop) (looks : List Look) (handled : Handled) (sent : Option Datagram) : Type 0 where
  pub fault : RequestRejection
  pub status : OwnStatus
  pub refuses : Refuses setup m source fault
  pub status_is : status_of_fault fault ≡ Some (code_of status)
  pub unseen : looks ≡ []
  pub answered : IsAnswered m source status handled sent

-- its key has got a number meanwhile: the call of that number is given the request as it was prepared
pub record IsKnownMeanwhile (setup : Setup) (m : MessageText) (source : Hop) (now : ℕ) (key : List ℕ) (looks : List Look) (handled : Handled) (sent : Option Datagram) : Type 0 where
  pub number : ℕ
  pub request : MessageText
  pub rest : List Look
  pub prepared : IsPrepared setup m source request
  pub seen : looks ≡ Found key (Some number) ∷ rest
  pub given : IsGiven number request source now rest handled sent

-- no number is left
pub record IsSpent (looks : List Look) (handled : Handled) (sent : Option Datagram) : Type 0 where
  pub seen : looks ≡ Spent ∷ []
  pub handled_is : handled ≡ Dropped
  pub sent_is : sent ≡ None

abbrev pub OpeningBecomes : Setup → MessageText → Hop → ℕ → List ℕ → List Look → Handled → Option Datagram → Type 0
OpeningBecomes setup m source now key looks handled sent =
    IsOpened setup m source key looks handled sent
    ⊎ (IsRejected setup m source looks handled sent
    ⊎ (IsKnownMeanwhile setup m source now key looks handled sent
    ⊎ IsSpent looks handled sent))

-- the proxy answers an OPTIONS request to itself with what it takes (section 11.2)
pub record IsTold (m : MessageText) (source : Hop) (looks : List Look) (handled : Handled) (sent : Option Datagram) : Type 0 where
  pub unseen : looks ≡ []
  pub handled_is : handled ≡ Answered 200
  pub sent_is : sent ≡ Some (capabilities_to m source)

-- it is answered 503, with when it may come again (section 21.5.4)
pub record IsTurnedAway (m : MessageText) (source : Hop) (looks : List Look) (handled : Handled) (sent : Option Datagram) : Type 0 where
  pub unseen : looks ≡ []
  pub handled_is : handled ≡ TurnedAway
  pub sent_is : sent ≡ Some (unavailable_to m source)

-- ---- by what is decided

-- it is answered so, with these further lines
abbrev pub IsAnsweredWith : MessageText → Hop → Answer → Handled → Option Datagram → Type 0
IsAnsweredWith m source answer handled sent = (handled ≡ Answered (code_of answer.status)) × (sent ≡ Some (answer_of m source answer.status answer.lines))

-- one of the first five steps of section 16.3 stops it, and it is answered by that, whatever is decided
abbrev pub IsStopped : Setup → MessageText → Hop → List Look → Handled → Option Datagram → Type 0
IsStopped setup m source looks handled sent = (rejected : IsRejected setup m source looks handled sent) × (is_found_first rejected.fault ≡ true)

-- or none does
abbrev pub PassesFirst : Setup → MessageText → Hop → Type 0
PassesFirst setup m source = (prepared : Prepared) × IsPreparedAs setup m source prepared

-- it opens a call by this setup, or is answered, or left to another
abbrev pub DecidedBecomes : Decision → Setup → MessageText → Hop → ℕ → List ℕ → List Look → Handled → Option Datagram → Type 0
DecidedBecomes (Opens moment) setup m source now key looks handled sent = OpeningBecomes moment m source now key looks handled sent
DecidedBecomes (Answers answer) setup m source now key looks handled sent =
    IsStopped setup m source looks handled sent ⊎ ((looks ≡ []) × PassesFirst setup m source × IsAnsweredWith m source answer handled sent)
DecidedBecomes Leaves setup m source now key looks handled sent =
    IsStopped setup m source looks handled sent ⊎ ((looks ≡ []) × PassesFirst setup m source × (handled ≡ Left) × (sent ≡ None))

abbrev pub AdmittedBecomes : (asks : Bool) → Serving → Setup → MessageText → Hop → ℕ → List ℕ → List Look → Handled → Option Datagram → Type 0
AdmittedBecomes true serving setup m source now key looks handled sent = IsTold m source looks handled sent
AdmittedBecomes false serving setup m source now key looks handled sent =
    (decision : Decision) × serving.decides setup m source now decision × DecidedBecomes decision setup m source now key looks handled sent

-- a REGISTER for the domain is answered by the registrar, or by another, or by nobody
abbrev pub RegisteredBecomes : Option Answer → MessageText → Hop → List Look → Handled → Option Datagram → Type 0
RegisteredBecomes (Some answer) m source looks handled sent = (looks ≡ []) × IsAnsweredWith m source answer handled sent
RegisteredBecomes None m source looks handled sent = (looks ≡ []) × (handled ≡ Left) × (sent ≡ None)

-- the registrar is shown the request with its source (section 18.2.1)
abbrev pub MarkedBecomes : Result MessageText ViaFault → Serving → Setup → MessageText → Hop → ℕ → List Look → Handled → Option Datagram → Type 0
MarkedBecomes (Ok with_source) serving setup m source now looks handled sent =
    (answer : Option Answer) × serving.registers setup with_source source now answer × RegisteredBecomes answer m source looks handled sent
MarkedBecomes (Err fault) serving setup m source now looks handled sent = (looks ≡ []) × IsAnswered m source own.BadRequest handled sent

-- by its top Via value, and by what it asks for (sections 10.3 steps 1 and 2 and 16.3 step 1); neither Max-Forwards nor Route values are looked
-- at
abbrev pub RegisteringBecomes : (via asks : Bool) → Serving → Setup → MessageText → Hop → ℕ → List Look → Handled → Option Datagram → Type 0
RegisteringBecomes false asks serving setup m source now looks handled sent = (looks ≡ []) × IsAnswered m source own.BadRequest handled sent
RegisteringBecomes true true serving setup m source now looks handled sent = (looks ≡ []) × IsAnswered m source own.BadExtension handled sent
RegisteringBecomes true false serving setup m source now looks handled sent = MarkedBecomes (marked m source) serving setup m source now looks handled sent

-- by which request it is
abbrev pub OpenerBecomes : Opener → Serving → Setup → MessageText → Hop → ℕ → List ℕ → List Look → Handled → Option Datagram → Type 0
OpenerBecomes openers.Registering serving setup m source now key looks handled sent =
    RegisteringBecomes (has_via m) (asks_extension m) serving setup m source now looks handled sent
OpenerBecomes _ serving setup m source now key looks handled sent =
    AdmittedBecomes (asks_service setup m) serving setup m source now key looks handled sent

-- by whether it was admitted
abbrev pub AskedBecomes : (admitted : Bool) → Serving → Setup → MessageText → Hop → ℕ → List ℕ → List Look → Handled → Option Datagram → Type 0
AskedBecomes false serving setup m source now key looks handled sent = IsTurnedAway m source looks handled sent
AskedBecomes true serving setup m source now key looks handled sent =
    OpenerBecomes (opener_of serving.registrar setup m) serving setup m source now key looks handled sent

-- a request without a key is not well formed (section 16.3 step 1)
abbrev pub NewBecomes : Serving → Setup → MessageText → Hop → ℕ → Option (List ℕ) → List Look → Handled → Option Datagram → Type 0
NewBecomes serving setup m source now None looks handled sent = (looks ≡ []) × IsAnswered m source own.BadRequest handled sent
NewBecomes serving setup m source now (Some key) looks handled sent =
    (admitted : Bool) × serving.admits (opener_of serving.registrar setup m) admitted × AskedBecomes admitted serving setup m source now key looks handled sent

-- an ACK of an answer of the proxy's own is absorbed; any other goes on by the setup by which it would be opened, and else is dropped
abbrev pub AckDecided : Decision → Setup → MessageText → Hop → Handled → Option Datagram → Type 0
AckDecided (Opens moment) setup m source handled sent = AckBecomes moment m source handled sent
AckDecided (Answers answer) setup m source handled sent = (handled ≡ Dropped) × (sent ≡ None)
AckDecided Leaves setup m source handled sent = (handled ≡ Dropped) × (sent ≡ None)

-- by what it is for: a CANCEL of nothing that the proxy knows is answered 481 (section 9.2)
abbrev pub UnknownBecomes : Serving → Setup → MessageText → Hop → ℕ → RequestKind → List Look → Handled → Option Datagram → Type 0
UnknownBecomes serving setup m source now Ack looks handled sent =
    (looks ≡ [])
    × ((HasOwnTag m × (handled ≡ Absorbed) × (sent ≡ None))
    ⊎ ((HasOwnTag m → ⊥) × (decision : Decision) × serving.decides setup m source now decision × AckDecided decision setup m source handled sent))
UnknownBecomes serving setup m source now Cancel looks handled sent = (looks ≡ []) × IsAnswered m source own.CallDoesNotExist handled sent
UnknownBecomes serving setup m source now Opening looks handled sent = NewBecomes serving setup m source now (request_key m) looks handled sent

-- ---- a request

-- the look at its key, and what is seen behind it; a request without a key is not looked for
abbrev pub LooksFor : Option (List ℕ) → Option ℕ → (looks rest : List Look) → Type 0
LooksFor None number looks rest = (number ≡ None) × (looks ≡ rest)
LooksFor (Some key) number looks rest = looks ≡ Found key number ∷ rest

-- the call that is found by its key is given it (section 17.2.3)
abbrev pub KeyBecomes : Serving → Setup → MessageText → Hop → ℕ → RequestKind → Option ℕ → List Look → Handled → Option Datagram → Type 0
KeyBecomes serving setup m source now purpose (Some number) looks handled sent = IsGiven number m source now looks handled sent
KeyBecomes serving setup m source now purpose None looks handled sent = UnknownBecomes serving setup m source now purpose looks handled sent

abbrev pub RequestBecomes : Serving → Setup → MessageText → Hop → ℕ → RequestKind → List Look → Handled → Option Datagram → Type 0
RequestBecomes serving setup m source now purpose looks handled sent =
    (number : Option ℕ)
    × (rest : List Look)
    × LooksFor (request_key m) number looks rest
    × KeyBecomes serving setup m source now purpose number rest handled sent

-- ---- the whole

abbrev pub BecomesBy : Serving → Setup → MessageText → Hop → ℕ → Option RequestKind → List Look → Handled → Option Datagram → Type 0
BecomesBy serving setup m source now None looks handled sent = ResponseBecomes setup m source now looks handled sent
BecomesBy serving setup m source now (Some purpose) looks handled sent = RequestBecomes serving setup m source now purpose looks handled sent

-- of a message
abbrev pub MessageBecomes : Serving → Setup → MessageText → Hop → ℕ → List Look → Handled → Option Datagram → Type 0
MessageBecomes serving setup m source now looks handled sent = BecomesBy serving setup m source now (purpose_of m.start) looks handled sent

-- of a text that is no message: a request whose body is cut short is answered 400, made of what stands before the body
abbrev pub FaultBecomes : Fault → Hop → Handled → Option Datagram → Type 0
FaultBecomes fault source Dropped sent = (is_fault_answered fault ≡ false) × (sent ≡ None)
FaultBecomes fault source (Answered status) sent =
    (status ≡ 400)
    × (is_fault_answered fault ≡ true)
    × (head : MessageText)
    × (fault ≡ Short head)
    × (sent ≡ Some (answer_of head source own.BadRequest []))
FaultBecomes fault source _ sent = ⊥

abbrev pub Becomes : Serving → Setup → List ℕ → Hop → ℕ → List Look → Handled → Option Datagram → Type 0
Becomes serving setup text source now looks handled sent =
    ((m : MessageText) × IsText text m × MessageBecomes serving setup m source now looks handled sent)
    ⊎ ((fault : Fault) × IsRefused text fault × (looks ≡ []) × FaultBecomes fault source handled sent)

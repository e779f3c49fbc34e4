-- What holds of a call from its opening on, and what its steps rest on: a transaction that waits has a branch that is
-- open, and what is kept to be sent can be sent (RFC 3261 sections 16.7, 16.8 and 17.1).
use Rattle.std.specs.Prelude.{◌≡◌, ℕ, Bool, true, false, List, Some, IfSome, is_some, slice_get}
use Rattle.std.specs.List.{AllByRecursion}
use Rattle.fork_model.specs.Table.{Offer, Rules, Table, is_invite, is_open, is_row}
use Rattle.fork_model.specs.Sources.{EachPasses}
use Rattle.fork_model.specs.History.{Target}
use Rattle.fork_model.specs.Chosen.{IsChosen}
use Rattle.fork_model.specs.Log.{opening_log, table_of}
use Rattle.sip_text.specs.Text.{MessageText}
use Rattle.sip_text.specs.Message.{IsMessage, is_value}
use Rattle.sip_via.specs.TopVia.{has_second, via_values}
use Rattle.sip_build.specs.Upward.{is_challenge}
use Rattle.sip_txn.specs.declared.invite_client.InviteClientState.{InviteClientState}
use Rattle.sip_txn.specs.declared.invite_client.InviteClientState.TheVariants as invite
use Rattle.sip_txn.specs.declared.other_client.OtherClientState.{OtherClientState}
use Rattle.sip_txn.specs.declared.other_client.OtherClientState.TheVariants as other
use Rattle.call_model.specs.Begun.{begun}
use Rattle.call_model.specs.Call.{Call, nth_branch}
use Rattle.call_model.specs.Client.{ClientTransaction, InviteClient, OtherClient}
use Rattle.call_model.specs.OpenedRequest.{OpenedRequest, Destination, kind_of}
use Rattle.call_model.specs.Branch.{Branch}
use Rattle.call_model.specs.Server.{Owed, Trying, Passed, Final, Again, CancelOk}
use Rattle.call_model.specs.Step.{Input, Take, Pump, Failed, Turn, Step}
use Rattle.call_model.specs.Take as to

-- ---- a branch

abbrev pub invite_awaits : InviteClientState → Bool
invite_awaits invite.Calling = true
invite_awaits invite.Proceeding = true
invite_awaits _ = false

abbrev pub other_awaits : OtherClientState → Bool
other_awaits other.Trying = true
other_awaits other.Proceeding = true
other_awaits _ = false

-- whether a transaction waits for a final response
abbrev pub awaits : ClientTransaction → Bool
awaits (InviteClient m) = invite_awaits m.state
awaits (OtherClient m) = other_awaits m.state

-- a response with one Via value was meant for the proxy itself, and goes no further (section 16.7 step 3)
abbrev pub IsForward : MessageText → Type 0
IsForward m = has_second (via_values m) ≡ true

-- the part of branch n where the table stands so
pub record IsSoundBranch (t : Table) (n : ℕ) (branch : Branch) : Type 0 where
  -- its branch has not ended while its transaction waits
  pub open_yet : awaits branch.client ≡ true → is_row is_open (slice_get t.rows n) ≡ true
  -- an INVITE alone has timer C
  pub timer_c : is_some branch.timer_c_at ≡ true → is_invite t.kind ≡ true
  -- the failure that it keeps may go up
  pub answer : IfSome branch.answer IsForward

-- ---- the caller's side

-- what is owed where the table stands so: a response may go up, and a final answer is the choice of the table
abbrev pub IsSoundOwed : Table → Owed → Type 0
IsSoundOwed t Trying = Unit {0}
IsSoundOwed t (Passed m) = IsForward m
IsSoundOwed t (Final choice) = IsChosen t (Some choice)
IsSoundOwed t Again = Unit {0}
IsSoundOwed t (CancelOk cancel to) = Unit {0}

-- ---- the whole

abbrev pub is_text : Offer → Bool
is_text offer = is_value offer.text

-- the contacts left and the challenges that are stored are values that a header line may have
abbrev pub StoresValues : Table → Type 0
StoresValues t = EachPasses is_text is_challenge t

pub record IsSound (call : Call) : Type 0 where
  pub kind : (table_of call.log).kind ≡ kind_of call.opened
  pub stored : StoresValues (table_of call.log)
  pub owed : AllByRecursion (IsSoundOwed (table_of call.log)) call.server.owed
  pub branches : (n : ℕ) (branch : Branch) → nth_branch call n ≡ Some branch → IsSoundBranch (table_of call.log) n branch

-- ---- laws

-- what a branch is given is a message, and may go up
abbrev pub IsGivenTo : to.MatchedTransaction → MessageText → Type 0
IsGivenTo (to.Client n) m = IsMessage m × IsForward m
IsGivenTo _ m = Unit {0}

abbrev pub IsGiven : Input → Type 0
IsGiven (Take r m source) = IsGivenTo r m
IsGiven Pump = Unit {0}
IsGiven (Failed cause) = Unit {0}

-- so a call begins to these targets
abbrev pub BegunIsSound : Type 0
BegunIsSound =
    (opened : OpenedRequest) (rules : Rules) (targets : List Target) (destinations : List Destination)
    → IsSound (begun opened (opening_log (kind_of opened) rules targets) destinations)

abbrev pub StepsKeepSound : Type 0
StepsKeepSound =
    (turn : Turn) (call new : Call) → IsSound call → IsGiven turn.input → Step turn.now call turn.input new turn.output → IsSound new

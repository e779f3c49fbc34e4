-- How the final answers of a call stand: those of its log were handed to the caller's transaction, or are still owed to it
-- (RFC 3261 sections 16.7 steps 5 to 9 and 17.2).
use Rattle.std.specs.Prelude.{◌≡◌, ◌⊎◌, ◌&&◌, ℕ, not, nat_lt, Bool, true, false, List, [], ◌∷◌, ◌++◌}
use Rattle.std.specs.List.{AllByRecursion}
use Rattle.fork_model.specs.Choice.{Choice}
use Rattle.fork_model.specs.History.{finals}
use Rattle.fork_model.specs.Table.{is_succeeded}
use Rattle.sip_txn.specs.declared.invite_server.InviteServerState.{InviteServerState}
use Rattle.sip_txn.specs.declared.invite_server.InviteServerState.TheVariants as invite
use Rattle.sip_txn.specs.declared.other_server.OtherServerState.{OtherServerState}
use Rattle.sip_txn.specs.declared.other_server.OtherServerState.TheVariants as other
use Rattle.call_model.specs.declared.cause.Cause.TheVariants as cause
use Rattle.call_model.specs.Built.{status_of}
use Rattle.call_model.specs.Call.{Call, rows_of}
use Rattle.call_model.specs.OpenedRequest.{is_invite}
use Rattle.call_model.specs.Server.{Owed, Trying, Passed, Final, Again, CancelOk, ServerTransaction, InviteServer, OtherServer}
use Rattle.call_model.specs.Step.{Failed, Turn}
use Rattle.call_laws.specs.Came.{IsTurnOf}

-- ---- the caller's transaction

-- it waits for a final answer, and sends the one that it is handed
abbrev pub invite_waits : InviteServerState → Bool
invite_waits invite.Proceeding = true
invite_waits invite.Completed = false
invite_waits invite.Confirmed = false
invite_waits invite.Accepted = false
invite_waits invite.Terminated = false

abbrev pub other_waits : OtherServerState → Bool
other_waits other.Trying = true
other_waits other.Proceeding = true
other_waits other.Completed = false
other_waits other.Terminated = false

abbrev pub waits : ServerTransaction → Bool
waits (InviteServer m) = invite_waits m.state
waits (OtherServer m) = other_waits m.state

-- what it is handed it sends as long as it waits; that of an INVITE sends a further 2xx behind one, too (RFC 6026 section 7.1)
abbrev pub is_success : (status : ℕ) → Bool
is_success status = nat_lt status 300 && not (nat_lt status 200)

abbrev pub invite_takes : InviteServerState → (success : Bool) → Bool
invite_takes invite.Proceeding success = true
invite_takes invite.Completed success = false
invite_takes invite.Confirmed success = false
invite_takes invite.Accepted success = success
invite_takes invite.Terminated success = false

abbrev pub takes : ServerTransaction → (status : ℕ) → Bool
takes (InviteServer m) status = invite_takes m.state (is_success status)
takes (OtherServer m) status = other_waits m.state

-- a failure was handed to it, and it has not ended yet
abbrev pub invite_failed : InviteServerState → Bool
invite_failed invite.Proceeding = false
invite_failed invite.Completed = true
invite_failed invite.Confirmed = true
invite_failed invite.Accepted = false
invite_failed invite.Terminated = false

abbrev pub has_failed : ServerTransaction → Bool
has_failed (InviteServer m) = invite_failed m.state
has_failed (OtherServer m) = false

-- by one of these turns it was told that an answer could not be sent
abbrev pub CouldNotSend : List Turn → Type 0
CouldNotSend turns = (turn : Turn) × IsTurnOf turns turn × (turn.input ≡ Failed cause.Answer)

-- it waits; that of a request other than INVITE may have ended, where a provisional answer could not be sent (section 17.2.4)
abbrev pub Awaits : List Turn → ServerTransaction → Type 0
Awaits turns (InviteServer m) = invite_waits m.state ≡ true
Awaits turns (OtherServer m) = (other_waits m.state ≡ true) ⊎ ((m.state ≡ other.Terminated) × CouldNotSend turns)

-- whose it is
abbrev pub is_for_invite : ServerTransaction → Bool
is_for_invite (InviteServer m) = true
is_for_invite (OtherServer m) = false

-- ---- final answers

abbrev pub finals_owed : List Owed → List Choice
finals_owed [] = []
finals_owed (Trying ∷ rest) = finals_owed rest
finals_owed (Passed response ∷ rest) = finals_owed rest
finals_owed (Final choice ∷ rest) = choice ∷ finals_owed rest
finals_owed (Again ∷ rest) = finals_owed rest
finals_owed (CancelOk cancel to ∷ rest) = finals_owed rest

-- after these turns, these were handed to the caller's transaction: with those that are owed they are the finals of the log, in
-- order; until one was handed, and where no branch was answered with a 2xx, the transaction waits for it, and from then on no
-- more; that of an INVITE has had no failure before
pub record FinalsStand (turns : List Turn) (handed : List Choice) (call : Call) : Type 0 where
  pub side : is_for_invite call.server.machine ≡ is_invite call.opened
  pub all : finals call.log.replies ≡ handed ++ finals_owed call.server.owed
  pub waiting : handed ≡ [] → is_succeeded (rows_of call) ≡ false → Awaits turns call.server.machine
  pub answered : (handed ≡ [] → ⊥) → waits call.server.machine ≡ false
  pub unfailed : handed ≡ [] → has_failed call.server.machine ≡ false

-- ---- responses that are owed

-- a response that goes up is provisional or a 2xx, and provisional as long as no branch was answered with a 2xx
abbrev pub MayBeOwed : Call → Owed → Type 0
MayBeOwed call Trying = Unit {0}
MayBeOwed call (Passed m) = (nat_lt (status_of m) 300 ≡ true) × (is_succeeded (rows_of call) ≡ false → nat_lt (status_of m) 200 ≡ true)
MayBeOwed call (Final choice) = Unit {0}
MayBeOwed call Again = Unit {0}
MayBeOwed call (CancelOk cancel to) = Unit {0}

abbrev pub OwesResponses : Call → Type 0
OwesResponses call = AllByRecursion (MayBeOwed call) call.server.owed

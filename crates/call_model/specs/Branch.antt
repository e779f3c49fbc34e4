-- What stands for a branch once its request was sent (RFC 3261 sections 9.1, 16.6 to 16.8 and 17.1).
use Rattle.std.specs.Prelude.{ℕ, List, Option, Some, None}
use Rattle.fork_model.specs.Table.{Kind, Invite, Other}
use Rattle.sip_text.specs.Text.{MessageText}
use Rattle.sip_txn.specs.declared.other_client.OtherClientState.{OtherClientState}
use Rattle.sip_txn.specs.declared.machine.Machine.{Machine}
use Rattle.sip_txn.specs.declared.timers.Reliability.{Reliability}
use Rattle.sip_txn.specs.Timers.{later}
use Rattle.call_model.specs.Client.{ClientTransaction, client_start, other_start}
use Rattle.call_model.specs.OpenedRequest.{Destination}
use Rattle.call_model.specs.Reliability.{reliability_of}

-- timer C is to be more than three minutes (section 16.6 step 11)
abbrev pub timer_c : ℕ
timer_c = 181000

-- how long a branch is waited for that was cancelled: 64 times T1 (section 9.1)
abbrev pub give_up : ℕ
give_up = 32000

-- what stands for its CANCEL once that was sent: a client transaction of its own
pub record CancelTransaction : Type 0 where
  pub client : Machine OtherClientState
  -- the CANCEL as it was sent
  pub sent : List ℕ
  pub give_up_at : ℕ

pub record Branch : Type 0 where
  pub client : ClientTransaction
  -- the request as it was sent
  pub sent : List ℕ
  -- the ACK that is owed, for the failure that came last (section 17.1.1.3)
  pub ack : Option (List ℕ)
  -- when timer C fires, of an INVITE; it has stopped where the branch was cancelled or has ended, and there is none any more
  -- where it fired and the branch was cancelled by that
  pub timer_c_at : Option ℕ
  pub cancelling : Option CancelTransaction
  -- the failure that was posted, if it was then the first of all
  pub answer : Option MessageText

-- of a request that is sent now; an INVITE alone has timer C
abbrev pub timer_c_from : Kind → ℕ → (longest : ℕ) → Option ℕ
timer_c_from Invite now longest = Some (later now longest)
timer_c_from Other now longest = None

-- one whose request is sent there now
abbrev pub branch_start : Kind → ℕ → Destination → List ℕ → Branch
branch_start kind now destination sent = record {
  client = client_start kind now (reliability_of destination.hop.transport);
  sent = sent;
  ack = None;
  timer_c_at = timer_c_from kind now destination.longest;
  cancelling = None;
  answer = None;
}

abbrev pub cancel_start : ℕ → List ℕ → Reliability → CancelTransaction
cancel_start now sent reliability = record { client = other_start now reliability; sent = sent; give_up_at = later now give_up }

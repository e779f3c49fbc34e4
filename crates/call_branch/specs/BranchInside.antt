-- How the part of a branch is changed in its place.
use Rattle.std.specs.Prelude.{Some, ℕ, zero, suc, nat_lt, Bool, List, [], ◌∷◌, Option, None, option_map, if◌then◌else◌}
use Rattle.call_model.specs.Branch.{Branch, CancelTransaction}
use Rattle.sip_text.specs.Text.{MessageText}
use Rattle.sip_txn.specs.declared.event.TxSend.{TxSend}
use Rattle.sip_txn.specs.declared.event.TxSend.TheVariants as send
use Rattle.call_model.specs.Client.{ClientTransaction}
use Rattle.sip_txn.specs.declared.other_client.OtherClientState.{OtherClientState}
use Rattle.sip_txn.specs.declared.machine.Machine.{Machine}

-- its CANCEL was sent
abbrev pub cancelled : CancelTransaction → Branch → Branch
cancelled cancelling branch = record branch { cancelling = Some cancelling }

-- its transaction went on, and an ACK is owed where one was made
abbrev pub responded : ClientTransaction → Option (List ℕ) → Branch → Branch
responded client None branch = record branch { client = client }
responded client (Some ack) branch = record branch { client = client; ack = Some ack }

-- a response was posted: timer C is set to this, and a failure is kept
abbrev pub kept : Option ℕ → Option MessageText → Branch → Branch
kept at None branch = record branch { timer_c_at = at }
kept at (Some m) branch = record branch { timer_c_at = at; answer = Some m }

abbrev pub changed_branch : (Branch → Branch) → List (Option Branch) → ℕ → List (Option Branch)
changed_branch f [] n = []
changed_branch f (l ∷ branches) zero = option_map f l ∷ branches
changed_branch f (l ∷ branches) (suc n) = l ∷ changed_branch f branches n

-- the ACK that is made for a failure, where the transaction asks for it
abbrev pub ack_made : TxSend → List ℕ → Option (List ℕ)
ack_made send.Ack ack = Some ack
ack_made _ ack = None

-- a failure may be kept, any other response may go up
abbrev pub answer_if : ℕ → MessageText → Option MessageText
answer_if status m = if nat_lt status 300 then None else Some m

-- one that another ranks before never goes up
abbrev pub kept_if : (first : Bool) → Option MessageText → Option MessageText
kept_if first failure = if first then failure else None

-- its ACK is owed no more
abbrev pub without_ack : Branch → Branch
without_ack branch = record branch { ack = None }

abbrev pub with_client : Machine OtherClientState → CancelTransaction → CancelTransaction
with_client client cancelling = record cancelling { client = client }

-- the transaction of its CANCEL went on
abbrev pub cancel_on : Machine OtherClientState → Branch → Branch
cancel_on client branch = record branch { cancelling = option_map (with_client client) branch.cancelling }

-- so many branches whose request was not sent
abbrev pub no_branches : ℕ → List (Option Branch)
no_branches zero = []
no_branches (suc n) = None ∷ no_branches n

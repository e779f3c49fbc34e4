-- What a step leaves of the part of a branch: its CANCEL, which is sent once and kept, and timer C (RFC 3261 sections 9.1 and
-- 16.6 to 16.8).
use Rattle.std.specs.Prelude.{◌≡◌, ◌⊎◌, ℕ, nat_lt, true, List, Option, Some, None, slice_get}
use Rattle.std.specs.Option.{option_map}
use Rattle.fork_model.specs.Event.{TimerC}
use Rattle.fork_model.specs.Log.{added}
use Rattle.fork_model.specs.Reply.{Reply}
use Rattle.fork_model.specs.Table.{is_ended}
use Rattle.sip_uri.specs.declared.hop.Hop.{Hop}
use Rattle.call_model.specs.declared.cause.Cause.TheVariants as cause
use Rattle.call_model.specs.Branch.{Branch, CancelTransaction, timer_c}
use Rattle.call_model.specs.Call.{Call, nth_branch, owes_cancel, row_passes}
use Rattle.call_model.specs.OpenedRequest.{Destination, is_invite}
use Rattle.call_model.specs.Posting.{call_tag}
use Rattle.call_model.specs.Pump.{Send, cancel_bytes}
use Rattle.call_model.specs.Sound.{IsSound}
use Rattle.call_model.specs.Step.{Did, Output, Turn, Step}

abbrev pub cancel_sent : CancelTransaction → List ℕ
cancel_sent cancelling = cancelling.sent

-- the CANCEL that a branch keeps, once that was sent
abbrev pub cancel_kept : Branch → Option (List ℕ)
cancel_kept branch = option_map cancel_sent branch.cancelling

-- by the step that leads from one call to the other, timer C of branch n has fired
abbrev pub FiresTimer : Call → Call → (n : ℕ) → Type 0
FiresTimer call new n = (reply : Reply) × (new.log ≡ added call.log call_tag (TimerC n) reply)

-- a turn that answers so sends these bytes as the CANCEL of branch n
abbrev pub SendsAsCancel : Output → (n : ℕ) → List ℕ → Type 0
SendsAsCancel output n bytes = (to : Hop) × (output ≡ Did (Send (record { to = to; bytes = bytes; cause = cause.Cancel n })))

-- the CANCEL that was owed to branch n is sent, which had none before, and is kept
pub record SendsCancelTo (output : Output) (call : Call) (n : ℕ) (destination : Destination) (branch later : Branch) : Type 0 where
  pub owed : owes_cancel call n ≡ true
  pub first : cancel_kept branch ≡ None
  pub sends : SendsAsCancel output n (cancel_bytes call n destination)
  pub kept : cancel_kept later ≡ Some (cancel_bytes call n destination)

-- the part of branch n before and after a step, which answers so, and by which timer C of a branch fires where `fires` says so
pub record GoesOn (fires : ℕ → Type 0) (output : Output) (call : Call) (n : ℕ) (destination : Destination) (branch later : Branch) : Type 0 where
  -- its CANCEL is kept, or sent now
  pub cancel : (cancel_kept later ≡ cancel_kept branch) ⊎ SendsCancelTo output call n destination branch later
  -- timer C that has fired does not run again
  pub fired : branch.timer_c_at ≡ None → later.timer_c_at ≡ None
  pub fires_now : later.timer_c_at ≡ None → (branch.timer_c_at ≡ None) ⊎ fires n
  -- and nothing prolongs a time that is shorter
  pub shorter : nat_lt destination.longest timer_c ≡ true → (later.timer_c_at ≡ branch.timer_c_at) ⊎ (later.timer_c_at ≡ None)

-- one whose request is sent now has no CANCEL, and timer C where it is an INVITE
pub record IsNew (call : Call) (branch : Branch) : Type 0 where
  pub cancel : cancel_kept branch ≡ None
  pub timer_c : is_invite call.opened ≡ true → branch.timer_c_at ≡ None → ⊥

pub record PartsGoOn (fires : ℕ → Type 0) (output : Output) (call new : Call) : Type 0 where
  pub kept : (n : ℕ) (destination : Destination) (branch : Branch) → slice_get call.destinations n ≡ Some destination → nth_branch call n ≡ Some branch
      → (later : Branch) × (nth_branch new n ≡ Some later) × GoesOn fires output call n destination branch later
  pub made : (n : ℕ) (branch : Branch) → nth_branch call n ≡ None → nth_branch new n ≡ Some branch → IsNew call branch

abbrev pub StepsKeepParts : Type 0
StepsKeepParts =
    (turn : Turn) (call new : Call) → Step turn.now call turn.input new turn.output → PartsGoOn (FiresTimer call new) turn.output call new

-- timer C that fires ends its branch, or the branch has none any more
abbrev pub FiringsEndOrCancel : Type 0
FiringsEndOrCancel =
    (turn : Turn) (call new : Call) (n : ℕ) → IsSound call → Step turn.now call turn.input new turn.output → FiresTimer call new n
    → (row_passes is_ended new n ≡ true) ⊎ ((branch : Branch) × (nth_branch new n ≡ Some branch) × (branch.timer_c_at ≡ None))

-- A call that is told of a message that could not be sent keeps its number.
use Rattle.std.proofs.Common.{◌≡◌, ◌∙◌, ℕ, Bool, true, false, Option, Some, None, Result, refl, ap}
use Rattle.std.specs.Prelude.{OnErr, OnOk}
use Rattle.call_model.specs.Branch.{Branch}
use Rattle.call_model.specs.Call.{Call, nth_branch}
use Rattle.call_model.specs.Failed.{Fails, FaultsBy, FaultsClient, cancel_faulted}
use Rattle.call_model.specs.declared.cause.Cause.{Cause}
use Rattle.call_model.specs.declared.cause.Cause.TheVariants as cause

abbrev number_of : Call → ℕ
number_of call = call.opened.number

faults_by_keep : (call : Call) (now n : ℕ) (branch : Branch) (fault : Bool) (new : Call) → FaultsBy call now n branch fault new → number_of new ≡ number_of call
faults_by_keep call now n branch true new (reply, posts) = ap number_of posts.follows
faults_by_keep call now n branch false new is = ap number_of is

faults_keep : (call : Call) (now n : ℕ) (branch : Option Branch) (new : Call) → FaultsClient call now n branch new → number_of new ≡ number_of call
faults_keep call now n None new is = ap number_of is
faults_keep call now n (Some branch) new faults = faults_by_keep call now n branch _ new faults

cancel_keeps : (call : Call) (now n : ℕ) (branch : Option Branch) → number_of (cancel_faulted call now n branch) ≡ number_of call
cancel_keeps call now n None = refl
cancel_keeps call now n (Some branch) = refl

pub fails_keep_number : (call : Call) (now : ℕ) (of : Cause) (new : Call) → Fails call now of new → new.opened.number ≡ call.opened.number
fails_keep_number call now (cause.Request n) new faults = faults_keep call now n _ new faults
fails_keep_number call now (cause.Ack n) new faults = faults_keep call now n _ new faults
fails_keep_number call now (cause.Cancel n) new is = ap number_of is ∙ cancel_keeps call now n _
fails_keep_number call now cause.Answer new is = ap number_of is
fails_keep_number call now cause.CancelOk new is = ap number_of is

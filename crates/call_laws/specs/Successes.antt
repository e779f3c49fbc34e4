-- Each 2xx that a branch of an INVITE answers goes up (RFC 3261 sections 13.3.1.4 and 16.7 step 5, RFC 6026 section 7.1).
use Rattle.std.specs.Prelude.{◌≡◌, ◌≢◌, ◌⊎◌, ℕ, true, List, [], ◌∷◌, ◌++◌, length, None, Some, slice_get}
use Rattle.fork_model.specs.History.{Target}
use Rattle.fork_model.specs.Table.{Rules}
use Rattle.sip_text.specs.Text.{MessageText}
use Rattle.sip_build.specs.Upward.{upward_of}
use Rattle.call_model.specs.Built.{status_of}
use Rattle.call_model.specs.Call.{Call}
use Rattle.call_model.specs.OpenedRequest.{OpenedRequest, Destination, is_invite}
use Rattle.call_model.specs.Server.{Passed, is_over}
use Rattle.call_model.specs.Step.{IsPostedBy, Turn}
use Rattle.call_laws.specs.Answers.{AreGiven, Begins, Drops, Sends}
use Rattle.call_laws.specs.Finals.{is_success}
use Rattle.call_laws.specs.Stages.{Leads, Payment, Stage, end_of, owed_new, owed_since, payments}

-- by this turn this 2xx came to a branch, and was posted
abbrev pub PostsSuccess : Turn → MessageText → Type 0
PostsSuccess turn m = (n : ℕ) × (at : ℕ) × IsPostedBy turn n at m × (is_success (status_of m) ≡ true)

-- it is sent with its own bytes behind the proxy's Via value, or dropped once the caller's transaction has ended
abbrev pub GivesSuccess : Payment → MessageText → Type 0
GivesSuccess payment m = Sends payment (upward_of m None []) ⊎ (Drops payment × is_over payment.call.server.machine)

-- at its place among all that came to be owed it was paid
abbrev pub WasPaid : List Payment → (place : ℕ) → MessageText → Type 0
WasPaid paid place m = (payment : Payment) × (slice_get paid place ≡ Some payment) × (payment.owed ≡ Passed m) × GivesSuccess payment m

-- by this stage, between these, it comes to be owed, and nothing else; once nothing is owed any more it was paid
pub record GoesUp (call : Call) (before : List Stage) (stage : Stage) (later : List Stage) (m : MessageText) : Type 0 where
  pub owed : owed_new (end_of call before) stage ≡ Passed m ∷ []
  pub paid : (end_of call (before ++ stage ∷ later)).server.owed ≡ []
      → WasPaid (payments [] call (before ++ stage ∷ later)) (length (call.server.owed ++ owed_since call before)) m

-- in every run of a call for an INVITE
abbrev pub EachSuccessGoesUp : Type 0
EachSuccessGoesUp =
    (opened : OpenedRequest) (rules : Rules) (targets : List Target) (destinations : List Destination) (before : List Stage) (stage : Stage) (later : List Stage) (m : MessageText)
    → targets ≢ [] → is_invite opened ≡ true → AreGiven (before ++ stage ∷ later)
    → Leads (Begins opened rules targets destinations) (before ++ stage ∷ later) → PostsSuccess stage.turn m
    → GoesUp (Begins opened rules targets destinations) before stage later m

-- Each datagram of a call is what its cause says.
use Rattle.std.proofs.Common.{◌≡◌, ◌∙◌, ◌∷◌, ℕ, Bool, true, false, List, [], Option, Some, None, IfSome, refl, sym, subst, inl, inr, slice_get}
use Rattle.fork_model.specs.Choice.{Choice}
use Rattle.std.specs.List.{AllByRecursion}
use Rattle.sip_text.specs.Text.{MessageText}
use Rattle.sip_txn.specs.declared.event.TxEvent.TheVariants as event
use Rattle.call_model.specs.Built.{Datagram, answer_of}
use Rattle.call_model.specs.Call.{Call, nth_branch}
use Rattle.call_model.specs.Datagrams.{IsBuilt, IsBuiltBranch}
use Rattle.call_model.specs.Due.{Action}
use Rattle.call_model.specs.Due as due
use Rattle.call_model.specs.OpenedRequest.{Destination}
use Rattle.call_model.specs.Branch.{Branch}
use Rattle.call_model.specs.Pump as pump
use Rattle.call_model.specs.Pump.{AnswersBy, AnswersWith, Does, FiresTimerC, Pumped, SendsAnswer, TicksClientBy, sent_if}
use Rattle.call_model.specs.Server as server
use Rattle.call_model.specs.Server.{Owed, served_out}
use Rattle.call_model.specs.Step.{Turn}
use Rattle.call_model.specs.Take.{is_response}
use Rattle.call_laws.specs.Origins.{IsOkayOf}
use Rattle.call_laws.specs.Right.{StandsAfter}
use Rattle.call_laws.specs.Sending.{IsSentFor, IsSentRight, WhatIsSentIsRight}
use Rattle.call_laws.proofs.Last.{again_never, tick_quiet}

-- the part of a branch that was sent to, by its destination
built_by : (call : Call) (n : ℕ) (destination : Destination) (branch : Branch) → IsBuilt call → slice_get call.destinations n ≡ Some destination → nth_branch call n ≡ Some branch → IsBuiltBranch call n destination branch
built_by call n destination branch built goes there =
    let found = built.branches n branch there in
    let same : found.0 ≡ destination = let e : Some found.0 ≡ Some destination = sym found.1 ∙ goes in cc in
    let P : Destination → Type 0 = λ w. IsBuiltBranch call n w branch in
    subst P same found.2

some_as : {A : Type 0} (P : A → Type 0) (o : Option A) (x : A) → o ≡ Some x → IfSome o P → P x
some_as P o x e h = let Q = λ (a : Option _). IfSome a P in subst Q e h

module _ (turns : List Turn) (handed : List Choice) (now : ℕ) (call new : Call) (stands : StandsAfter turns handed call) where
  abbrev Right : Pumped → Type 0
  Right p = IsSentRight turns call p

  right_as : (p q : Pumped) → p ≡ q → Right q → Right p
  right_as p q e h = subst Right (sym e) h

  as_if : (b : Bool) (p : Pumped) (d : Datagram) → p ≡ sent_if b d → (b ≡ true → IsSentFor turns call d d.cause) → Right p
  as_if true p d e h = right_as p (pump.Send d) e (h refl)
  as_if false p d e h = right_as p pump.Did e tt

  -- something was sent where it may be sent again
  some_again : (rest : List Owed) → call.server.owed ≡ server.Again ∷ rest → call.server.last ≡ [] → ⊥
  some_again rest is none = again_never call.server.machine call.server.owed rest is (stands.last none)

  some_ticked : is_response (served_out event.Tick now call.server.machine).send ≡ true → call.server.last ≡ [] → ⊥
  some_ticked sends none =
      let h : false ≡ true = sym (tick_quiet now call.server.machine call.server.owed (stands.last none)) ∙ sends in
      absurd cc

  answered : (rest : List Owed) (owed : Owed) (m : MessageText) (b : Bool) (p : Pumped) → call.server.owed ≡ owed ∷ rest → answer_of call owed ≡ Some m
      → AnswersBy call now rest m b p new → Right p
  answered rest owed m true p is made (out, e) = right_as p _ out (refl, inr (owed, rest, m, is, made, refl))
  answered rest owed m false p is made (out, e) = right_as p pump.Did out tt

  answered_with : (rest : List Owed) (owed : Owed) (o : Option MessageText) (p : Pumped) → call.server.owed ≡ owed ∷ rest → answer_of call owed ≡ o
      → AnswersWith call now rest o p new → Right p
  answered_with rest owed None p is made h = absurd h
  answered_with rest owed (Some m) p is made h = answered rest owed m _ p is made h

  okay_of : (owed : Owed) (rest : List Owed) → call.server.owed ≡ owed ∷ rest → IsOkayOf turns owed
  okay_of owed rest is = let A : List Owed → Type 0 = λ os. AllByRecursion (IsOkayOf turns) os in (subst A is stands.origins.okays).0

  paid : (owed : List Owed) (p : Pumped) → call.server.owed ≡ owed → SendsAnswer call now owed p new → Right p
  paid [] p is h = absurd h
  paid (server.Again ∷ rest) p is (out, e) = right_as p _ out (refl, inl (refl, some_again rest is))
  paid (server.CancelOk cancel hop ∷ rest) p is (out, e) = right_as p _ out (cancel, rest, is, okay_of (server.CancelOk cancel hop) rest is, refl)
  paid (server.Trying ∷ rest) p is h = answered_with rest server.Trying _ p is refl h
  paid (server.Passed m ∷ rest) p is h = answered_with rest (server.Passed m) _ p is refl h
  paid (server.Final choice ∷ rest) p is h = answered_with rest (server.Final choice) _ p is refl h

  ticked : (n : ℕ) (destination : Destination) (branch : Branch) (b : Bool) (p : Pumped) → IsBuiltBranch call n destination branch → slice_get call.destinations n ≡ Some destination → TicksClientBy call now n destination branch b p new
      → Right p
  ticked n destination branch true p built goes (out, reply, posts) = right_as p pump.Did out tt
  ticked n destination branch false p built goes (out, e) = as_if _ p _ out (λ sends. (destination, goes, refl, built.request))

  fired : (n : ℕ) (branch : Branch) (b : Bool) (p : Pumped) → FiresTimerC call now n branch b p new → Right p
  fired n branch true p (out, reply, posts) = right_as p pump.Did out tt
  fired n branch false p (out, reply, posts) = right_as p pump.Did out tt

  done : (action : Action) (p : Pumped) → Does call now action p new → Right p
  done (due.SendRequest n) p (destination, goes, (out, e)) = right_as p _ out (destination, goes, refl, refl)
  done (due.SendCancel n) p (destination, branch, goes, there, (out, e)) = right_as p _ out (destination, goes, refl, (pump.reasons_of call n, refl))
  done (due.SendAck n) p (destination, branch, goes, there, (ack, owes, out, e)) = right_as p _ out (destination, goes, refl, stands.origins.acks n branch ack there owes)
  done due.SendAnswer p h = paid call.server.owed p refl h
  done due.TickServer p (out, e) = as_if _ p _ out (λ sends. (refl, inl (refl, some_ticked sends)))
  done (due.TickClient n) p (destination, branch, goes, there, h) = ticked n destination branch _ p (built_by call n destination branch stands.built goes there) goes h
  done (due.TickCancel n) p (destination, branch, goes, there, (cancelling, has, out, e)) =
      as_if _ p _ out (λ sends. (destination, goes, refl, some_as _ branch.cancelling cancelling has (built_by call n destination branch stands.built goes there).cancel))
  done (due.FireTimerC n) p (branch, there, h) = fired n branch _ p h
  done (due.GiveUp n) p (branch, there, (out, reply, posts)) = right_as p pump.Did out tt

pub sent_right : WhatIsSentIsRight
sent_right turns handed now call new pump.Idle stands h = tt
sent_right turns handed now call new (pump.Send d) stands (action, is, h) = done turns handed now call new stands action (pump.Send d) h
sent_right turns handed now call new pump.Did stands (action, is, h) = tt

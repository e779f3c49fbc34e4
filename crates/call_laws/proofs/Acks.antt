-- An ACK that is sent was owed to its branch, and is owed no more.
use Rattle.std.proofs.Common.{◌≡◌, ◌∙◌, ◌∷◌, ℕ, zero, suc, Bool, true, false, List, [], Option, Some, None, ap, refl, sym, subst, slice_get}
use Rattle.sip_text.specs.Text.{MessageText}
use Rattle.call_model.specs.declared.cause.Cause.{Cause}
use Rattle.call_model.specs.declared.cause.Cause.TheVariants as cause
use Rattle.call_model.specs.Branch.{Branch}
use Rattle.call_model.specs.Built.{Datagram, answer_of}
use Rattle.call_model.specs.Call.{Call, found, nth_branch, with_branch}
use Rattle.call_model.specs.Due.{Action}
use Rattle.call_model.specs.Due as due
use Rattle.call_model.specs.OpenedRequest.{Destination}
use Rattle.call_model.specs.Pump as pump
use Rattle.call_model.specs.Pump.{AnswersBy, AnswersWith, Does, FiresTimerC, SendsAnswer, TicksClientBy, sent_if}
use Rattle.call_model.specs.Server as server
use Rattle.call_model.specs.Server.{Owed}
use Rattle.call_model.specs.Step as step
use Rattle.call_model.specs.Step.{Step}

-- the branch that an ACK is for
abbrev acked_at : Cause → Option ℕ
acked_at (cause.Ack n) = Some n
acked_at (cause.Request n) = None
acked_at (cause.Cancel n) = None
acked_at cause.Answer = None
acked_at cause.CancelOk = None

the_same : (d e : Datagram) → pump.Send d ≡ pump.Send e → d ≡ e
the_same d e h = cc

sent_same : (b : Bool) (d e : Datagram) → pump.Send d ≡ sent_if b e → d ≡ e
sent_same true d e h = the_same d e h
sent_same false d e h = absurd cc

no_ack : (n : ℕ) (d e : Datagram) → d ≡ e → acked_at e.cause ≡ None → d.cause ≡ cause.Ack n → ⊥
no_ack n d e same none is = let h : Some n ≡ None = ap acked_at (sym is) ∙ ap (λ (x : Datagram). acked_at x.cause) same ∙ none in absurd cc

some_same : {A : Type 0} (a b : A) → Some a ≡ Some b → a ≡ b
some_same a b e = cc

set_there : (branches : List (Option Branch)) (k : ℕ) (x b : Branch) → found (slice_get (with_branch branches k x) k) ≡ Some b → b ≡ x
set_there [] k x b e = absurd cc
set_there (y ∷ branches) zero x b e = some_same b x (sym e)
set_there (y ∷ branches) (suc k) x b e = set_there branches k x b e

-- it was owed, and is owed no more
abbrev pub PaysAck : Call → Call → ℕ → Datagram → Type 0
PaysAck call new n d =
    (branch : Branch)
    × (nth_branch call n ≡ Some branch)
    × (branch.ack ≡ Some d.bytes)
    × ((later : Branch) → nth_branch new n ≡ Some later → later.ack ≡ None)

module _ (call new : Call) (now n : ℕ) (d : Datagram) (is : d.cause ≡ cause.Ack n) where
  abbrev Found : Type 0
  Found = PaysAck call new n d

  answered : (rest : List Owed) (m : MessageText) (b : Bool) → AnswersBy call now rest m b (pump.Send d) new → Found
  answered rest m true (out, e) = absurd (no_ack n d _ (the_same d _ out) refl is)
  answered rest m false (out, e) = absurd (let h = out in cc)

  answered_with : (rest : List Owed) (o : Option MessageText) → AnswersWith call now rest o (pump.Send d) new → Found
  answered_with rest None h = absurd h
  answered_with rest (Some m) h = answered rest m _ h

  paid : (owed : List Owed) → SendsAnswer call now owed (pump.Send d) new → Found
  paid [] h = absurd h
  paid (server.Again ∷ rest) (out, e) = absurd (no_ack n d _ (the_same d _ out) refl is)
  paid (server.CancelOk cancel hop ∷ rest) (out, e) = absurd (no_ack n d _ (the_same d _ out) refl is)
  paid (server.Trying ∷ rest) h = answered_with rest (answer_of call server.Trying) h
  paid (server.Passed m ∷ rest) h = answered_with rest (answer_of call (server.Passed m)) h
  paid (server.Final choice ∷ rest) h = answered_with rest (answer_of call (server.Final choice)) h

  ticked : (k : ℕ) (destination : Destination) (branch : Branch) (b : Bool) → TicksClientBy call now k destination branch b (pump.Send d) new → Found
  ticked k destination branch true (out, r, h) = absurd (let e = out in cc)
  ticked k destination branch false (out, e) = absurd (no_ack n d _ (sent_same _ d _ out) refl is)

  fired : (k : ℕ) (branch : Branch) (b : Bool) → FiresTimerC call now k branch b (pump.Send d) new → Found
  fired k branch true (out, r, h) = absurd (let e = out in cc)
  fired k branch false (out, r, h) = absurd (let e = out in cc)

  at_number : (k : ℕ) (e : Datagram) → d ≡ e → e.cause ≡ cause.Ack k → k ≡ n
  at_number k e same why = let h : cause.Ack k ≡ cause.Ack n = sym why ∙ ap (λ (x : Datagram). x.cause) (sym same) ∙ is in cc

  done : (action : Action) → Does call now action (pump.Send d) new → Found
  done (due.SendRequest k) (destination, goes, (out, e)) = absurd (no_ack n d _ (the_same d _ out) refl is)
  done (due.SendCancel k) (destination, branch, goes, there, (out, e)) = absurd (no_ack n d _ (the_same d _ out) refl is)
  done (due.SendAck k) (destination, branch, goes, there, (ack, owed, out, e)) =
      let F : ℕ → Type 0 = λ i. PaysAck call new i d in
      subst F (at_number k _ (the_same d _ out) refl) (
        branch,
        there,
        owed ∙ ap (λ (x : Datagram). Some x.bytes) (sym (the_same d _ out)),
        λ later at.
            let same = set_there call.branches k _ later (ap (λ (c : Call). nth_branch c k) (sym e) ∙ at) in
            ap (λ (x : Branch). x.ack) same,
      )
  done due.SendAnswer h = paid call.server.owed h
  done due.TickServer (out, e) = absurd (no_ack n d _ (sent_same _ d _ out) refl is)
  done (due.TickClient k) (destination, branch, goes, there, h) = ticked k destination branch _ h
  done (due.TickCancel k) (destination, branch, goes, there, (cancelling, has, out, e)) = absurd (no_ack n d _ (sent_same _ d _ out) refl is)
  done (due.FireTimerC k) (branch, there, h) = fired k branch _ h
  done (due.GiveUp k) (branch, there, (out, r, h)) = absurd (let e = out in cc)

-- a turn that sends it is a pump
pub pays_ack : (now : ℕ) (call : Call) (input : step.Input) (new : Call) (n : ℕ) (d : Datagram) → d.cause ≡ cause.Ack n → Step now call input new (step.Did (pump.Send d)) → PaysAck call new n d
pays_ack now call (step.Take r m source) new n d is h = absurd h
pays_ack now call step.Pump new n d is (action, due, h) = done call new now n d is action h
pays_ack now call (step.Failed c) new n d is h = absurd h

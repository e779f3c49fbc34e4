-- A message that comes to a call, and how it leaves it.
use Rattle.fork_call.proofs.Common.{◌≡◌, ◌∙◌, ℕ, ◌+◌, ◌≤◌, refl, sym, subst, inl, arith, true, false, Bool, List, ◌++◌, length, replicate, Option, None, cond, OthersAreLeft, BecameIsExact, PositionsAreBounded, most_targets, MessageText}
use Rattle.fork_call.proofs.Common.{Hop, status_of, Call, rows_of, is_redirection, IsSound, StepsKeepSound, MatchedTransaction, TakesAs, IsTimed, retimed, room_for, row_of_recipient}
use Rattle.std.proofs.Common.{Result, Ok, Err}
use Rattle.std.specs.Prelude.{IfOk, OnErr}
use Rattle.fork_model.specs.Sources as sources
use Rattle.sip_text.specs.Message.{IsMessage}
use Rattle.call_model.specs.declared.taken.Taken.{Taken}
use Rattle.call_model.specs.SeenTaken.{seen_taken}
use Rattle.call_model.specs.Sound.{IsGivenTo}
use Rattle.call_model.specs.Step as step
use Rattle.call_model.specs.Take as to
use Rattle.call_state.specs.Matching.{BelongsTo}
use Rattle.fork_call.specs.declared.fault.TakeFault.{TakeFault}
use Rattle.fork_call.specs.declared.fault.TakeFault.TheVariants.{Full}
use Rattle.fork_call.specs.Takes.{Takes}
use Rattle.call_laws.specs.Right.{SendsRight, StepsStand}
use Rattle.fork_call.proofs.Stepping.{right_after, timed_after}
use Rattle.fork_call.proofs.Timed.{no_more_rows}
use Rattle.fork_call.proofs.Touching.{Touches, beside_same, takes_touch}

given_by : (call : Call) (m : MessageText) (r : MatchedTransaction) → BelongsTo call m r → IsMessage m → IsGivenTo r m
given_by call m to.Server belongs is = _
given_by call m to.ServerAck belongs is = _
given_by call m to.ServerCancel belongs is = _
given_by call m (to.Client n) belongs is = (is, belongs.1)
given_by call m (to.CancelClient n) belongs is = _

module _ (kept : StepsKeepSound) (stand : StepsStand) (bounded : PositionsAreBounded) (none : sources.AddsNoRow) (left : OthersAreLeft) (exact : BecameIsExact)
    (call new : Call) (moments after : List (Option ℕ)) (timed : IsTimed call moments)
    (sized : length call.branches ≡ length (rows_of call)) (replied : length call.log.replies ≡ length call.log.history)
    (now : ℕ) (m : MessageText) (source : Hop) (r : MatchedTransaction) where
  -- it was taken, or the call is as it was
  outcome : (result : Result Taken TakeFault) → IfOk result (λ taken. TakesAs call now m source r (seen_taken taken) new) → OnErr result (new ≡ call) → IsGivenTo r m
      → Touches call new (row_of_recipient r) (is_redirection (status_of m) ≡ false) × IsSound new × SendsRight new
  outcome (Ok taken) takes same given = (
    takes_touch call new now m source r (seen_taken taken) takes,
    kept (record { now = now; input = step.Take r m source; output = step.Took (seen_taken taken) }) call new timed.sound given takes,
    right_after kept stand bounded none left exact call new moments after timed sized replied
        (record { now = now; input = step.Take r m source; output = step.Took (seen_taken taken) }) takes,
  )
  outcome (Err fault) takes same given = (inl (beside_same call new (row_of_recipient r) same), subst IsSound (sym same) timed.sound, subst SendsRight (sym same) timed.right)

  room : (status : ℕ) → length (rows_of new) ≤ most_targets → (is_redirection status ≡ false → length (rows_of new) ≡ length (rows_of call))
      → length (rows_of new) ≤ length (rows_of call) + room_for status
  room status few same = by (is_redirection status) same
    where
      by : (b : Bool) → (b ≡ false → length (rows_of new) ≡ length (rows_of call)) → length (rows_of new) ≤ length (rows_of call) + cond {A = ℕ} b most_targets 0
      by true same = omega (arith, few)
      by false same = let e = same refl in omega (arith, e)

  pub taken_timed : (result : Result Taken TakeFault) → IfOk result (λ taken. TakesAs call now m source r (seen_taken taken) new) → OnErr result (new ≡ call)
      → BelongsTo call m r → IsMessage m
      → length (rows_of new) ≤ most_targets
      → after ≡ retimed new (row_of_recipient r) (length call.log.history) (moments ++ replicate (room_for (status_of m)) None)
      → IsTimed new after
  taken_timed result takes same belongs is few times =
      let nothing_due = is_redirection (status_of m) ≡ false in
      let came = outcome result takes same (given_by call m r belongs is) in
      timed_after kept stand bounded none left exact call new moments after timed sized replied (row_of_recipient r) nothing_due (room_for (status_of m)) came.0 came.1 came.2
      (room (status_of m) few (λ q. no_more_rows none call new (row_of_recipient r) nothing_due came.0 q)) times

-- ---- what is answered

pub on_err : {T E : Type 0} → (r : Result T E) (P : Type 0) → P → OnErr r P
on_err (Ok x) P p = _
on_err (Err e) P p = p

pub same_on_err : {T E : Type 0} → (r : Result T E) (new call old : Call) → call ≡ old → OnErr r (new ≡ call) → OnErr r (new ≡ old)
same_on_err (Ok x) new call old e same = _
same_on_err (Err f) new call old e same = same ∙ e

module _ (call new old : Call) (view : call ≡ old) (now : ℕ) (m : MessageText) (source : Hop) (r : MatchedTransaction) (belongs : BelongsTo call m r) where
  pub ok_takes : (result : Result Taken TakeFault) → IfOk result (λ taken. TakesAs call now m source r (seen_taken taken) new)
      → IfOk result (λ taken. Takes old now m source (seen_taken taken) new)
  ok_takes (Ok taken) takes = let P : Call → Type 0 = λ x. Takes x now m source (seen_taken taken) new in subst P view (r, belongs, takes)
  ok_takes (Err fault) takes = _

  pub full_takes : (result : Result Taken TakeFault) → OnErr result (new ≡ call)
      → (result ≡ Err Full → TakesAs call now m source r to.Full new)
      → result ≡ Err Full → Takes old now m source to.Full old
  full_takes result same full e =
      let P : Call → Type 0 = λ x. Takes x now m source to.Full x in
      let S : Result Taken TakeFault → Type 0 = λ x. OnErr x (new ≡ call) in
      let Q : Call → Type 0 = λ x. TakesAs call now m source r to.Full x in
      subst P view (r, belongs, subst Q (subst S e same) (full e))

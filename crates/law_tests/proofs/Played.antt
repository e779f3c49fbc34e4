-- A call that a test plays by calls alone goes on by them.
use Rattle.std.proofs.Common.{◌≡◌, inl, inr, ℕ, Bool, true, false, List, [], ◌∷◌, ◌++◌, Some, None, Result, Ok, Err, refl, ap, sym, subst, ◌∙◌}
use Rattle.std.specs.Prelude.{IfOk, OnErr, OnOk}
use Rattle.fork_model.specs.Core.{Core}
use Rattle.fork_model.specs.Log.{Log, core_of}
use Rattle.fork_model.specs.Table.{is_finished, is_succeeded}
use Rattle.sip_text.specs.Message.{IsMessage}
use Rattle.sip_text.specs.Text.{MessageText}
use Rattle.sip_uri.specs.declared.hop.Hop.{Hop}
use Rattle.call_model.specs.declared.cause.Cause.{Cause}
use Rattle.call_model.specs.declared.taken.Taken.{Taken}
use Rattle.call_model.specs.Call.{Call}
use Rattle.call_model.specs.Due.{IsIdle, SendAnswer, is_any}
use Rattle.call_model.specs.Failed.{Fails}
use Rattle.call_model.specs.Pump.{Pumped, Pumps}
use Rattle.call_model.specs.SeenTaken.{seen_taken}
use Rattle.call_model.specs.Server.{Owed}
use Rattle.fork_call.specs.Carry.{IsCarriedOut, IsCutOff, Sends}
use Rattle.fork_call.specs.Runs.{Answer, AnswerAt, Answers, AnswersAll, AreSaid, Carried, CutOff, Gave, IsSaid, Told, Took}
use Rattle.fork_call.specs.Takes.{Takes}
use Rattle.fork_call.specs.declared.fault.TakeFault.{TakeFault}
use Rattle.law_tests.specs.Played.{HasEnded, IsPlayed}

-- ---- one call after another

answers_append : (call mid new : Call) (a b : List AnswerAt) → AnswersAll call a mid → AnswersAll mid b new → AnswersAll call (a ++ b) new
answers_append call mid new [] b same rest =
    let P : Call → Type 0 = λ x. AnswersAll x b new in
    subst P same rest
answers_append call mid new (answer ∷ a) b (next, first, others) rest = (next, first, answers_append next mid new a b others rest)

said_append : (a b : List AnswerAt) → AreSaid a → AreSaid b → AreSaid (a ++ b)
said_append [] b first rest = rest
said_append (answer ∷ a) b first rest = (first.0, said_append a b first.1 rest)

pub not_played : (call new : Call) → new ≡ call → IsPlayed call new
not_played call new same = ([], same, tt)

pub played_on : (call mid new : Call) → IsPlayed call mid → IsPlayed mid new → IsPlayed call new
played_on call mid new (a, first, said) (b, rest, more) = (a ++ b, answers_append call mid new a b first rest, said_append a b said more)

-- ---- each of the calls

by_one : (now : ℕ) (call new : Call) (answer : Answer) → Answers now call answer new → IsSaid answer → IsPlayed call new
by_one now call new answer answers said = (record { now = now; answer = answer } ∷ [], (new, answers, refl), (said, tt))

pub taken_played : (now : ℕ) (call new : Call) (m : MessageText) (source : Hop) (r : Result Taken TakeFault) → IsMessage m
    → IfOk r (λ taken. Takes call now m source (seen_taken taken) new) → OnErr r (new ≡ call) → IsPlayed call new
taken_played now call new m source (Ok taken) is takes same = by_one now call new (Took m source (seen_taken taken)) takes is
taken_played now call new m source (Err fault) is takes same = not_played call new same

pub pumped_played : (now : ℕ) (call new : Call) (pumped : Pumped) → Pumps call now pumped new → IsPlayed call new
pumped_played now call new pumped pumps = by_one now call new (Gave pumped) pumps tt

pub told_played : {V E : Type 0} → (now : ℕ) (call new : Call) (cause : Cause) (r : Result V E) → OnOk r (Fails call now cause new) → OnErr r (new ≡ call) → IsPlayed call new
told_played now call new cause (Ok v) fails same = by_one now call new (Told cause) fails tt
told_played now call new cause (Err e) fails same = not_played call new same

module _ {P : Type 0} (sends : Sends P) (count : P → ℕ) (now : ℕ) (call : Call) (port : P) (new : Call) (new_port : P) where
  pub carried_played : (sent failed : ℕ) (more : Bool) → IsCarriedOut sends count now call port new new_port sent failed more → IsPlayed call new
  carried_played sent failed more run = by_one now call new (Carried run.steps) run.run tt

  pub cut_played : IsCutOff sends count now call port new new_port → IsPlayed call new
  cut_played (steps, mid, mid_port, few, run, handed, inl same) = by_one now call new (CutOff steps None) (mid, run, same.0) tt
  cut_played (steps, mid, mid_port, few, run, handed, inr lost) = by_one now call new (CutOff steps (Some lost.0)) (mid, run, lost.1) tt

-- ---- the end

-- where nothing is due nothing is owed
pub nothing_owed : (call : Call) (now : ℕ) → IsIdle call now → call.server.owed ≡ []
nothing_owed call now idle = by call.server.owed refl
  where
    by : (owed : List Owed) → call.server.owed ≡ owed → call.server.owed ≡ []
    by [] e = e
    by (first ∷ rest) e =
        let none : is_any call.server.owed ≡ false = idle SendAnswer in
        let some : is_any call.server.owed ≡ true = let P : List Owed → Type 0 = λ xs. is_any xs ≡ true in subst P (sym e) refl in
        absurd cc

-- of which every branch has ended, none with a 2xx, as its context says
pub has_ended : (call : Call) (now : ℕ) (book : Log) (core : Core) (finished succeeded : Bool) → IsIdle call now → book ≡ call.log → core ≡ core_of book
    → finished ≡ is_finished core.table.rows → succeeded ≡ is_succeeded core.table.rows → finished ≡ true → succeeded ≡ false → HasEnded call
has_ended call now book core finished succeeded idle booked cored finishes succeeds ended failed =
    let at : core ≡ core_of call.log = cored ∙ ap core_of booked in
    record {
      finished = sym (ap (λ (c : Core). is_finished c.table.rows) at) ∙ (sym finishes ∙ ended);
      failed = sym (ap (λ (c : Core). is_succeeded c.table.rows) at) ∙ (sym succeeds ∙ failed);
      paid = nothing_owed call now idle;
    }

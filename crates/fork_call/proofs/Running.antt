-- Any list of calls is a run, turn by turn.
use Rattle.std.proofs.lemmas.List.{append_assoc}
use Rattle.std.specs.List.{AllByRecursion}
use Rattle.fork_call.proofs.Common.{◌≡◌, ◌∙◌, ℕ, refl, ap, sym, subst, inl, inr, List, [], ◌∷◌, ◌++◌, length, Option, Some, None, Log, added, table_of, MessageText, Hop, Cause, Datagram, Call, call_tag}
use Rattle.fork_call.proofs.Common.{Pumped, Pumps, Fails, MatchedTransaction, Carrying, Sent, Lost, Silent, Carries, CarriesAll}
use Rattle.fork_model.specs.Reply.{IsReply}
use Rattle.sip_text.specs.Message.{IsMessage}
use Rattle.call_model.specs.Pump as pump
use Rattle.call_model.specs.Sound.{IsGiven, IsGivenTo}
use Rattle.call_model.specs.Step as step
use Rattle.call_model.specs.Step.{Input, Output, Step, Turn}
use Rattle.call_model.specs.Take as to
use Rattle.call_laws.specs.Answers.{AreGiven}
use Rattle.call_laws.specs.EachDatagram.{turns_of}
use Rattle.call_laws.specs.Stages.{Leads, Stage, end_of}
use Rattle.call_state.specs.Matching.{BelongsTo}
use Rattle.fork_call.specs.Takes.{Takes}
use Rattle.fork_call.specs.Runs.{Answer, AnswerAt, Answers, AnswersAll, AreSaid, AreStages, AreTurns, AreTurnsOf, CallsHaveStages, IsSaid, LogEach, Logs, LosesUntold}
use Rattle.fork_call.specs.Runs.{datagrams_of, failed_turn, handed_by, handed_by_all, one_given, one_lost, one_sent, pump_turn, sent_by, turn_of_lost, turns_of_step, turns_of_steps}
use Rattle.fork_call.specs.Runs as runs
use Rattle.fork_call.proofs.Touching.{Touches, does_touch, fails_touch, takes_touch}

-- ---- one step

-- what a step touches says what it posts
logged : (call new : Call) (row : Option ℕ) (nothing_due : Type 0) → Touches call new row nothing_due → Logs call.log new.log
logged call new row nothing_due (inl beside) = inl beside.log
logged call new row nothing_due (inr p) =
    let posts = p.posts in
    let log : new.log ≡ added p.mid.log call_tag p.event p.reply = ap (λ (x : Call). x.log) posts.follows in
    let R : Log → Type 0 = λ l. IsReply (table_of l) p.event (length l.history) p.reply in
    inr (p.event, p.reply, subst R p.beside.log posts.reply_is, log ∙ ap (λ (l : Log). added l call_tag p.event p.reply) p.beside.log)

pump_logs : (now : ℕ) (call new : Call) (pumped : Pumped) → Pumps call now pumped new → Logs call.log new.log
pump_logs now call new (pump.Send d) (action, due, does) = logged call new _ _ (does_touch call new now action (pump.Send d) does)
pump_logs now call new pump.Did (action, due, does) = logged call new _ _ (does_touch call new now action pump.Did does)
pump_logs now call new pump.Idle (idle, same) = inl (ap (λ (x : Call). x.log) same)

fail_logs : (now : ℕ) (call new : Call) (why : Cause) → Fails call now why new → Logs call.log new.log
fail_logs now call new why fails = logged call new _ _ (fails_touch call new now why fails)

-- ---- the stages of some turns

abbrev GivenTurns : List Turn → Type 0
GivenTurns turns = AllByRecursion (λ (turn : Turn). IsGiven turn.input) turns

record StagesOf (call : Call) (turns : List Turn) (new : Call) : Type 0 where
  pub stages : List Stage
  pub are : turns_of stages ≡ turns
  pub leads : Leads call stages
  pub ends : end_of call stages ≡ new
  pub logs : LogEach call stages

no_stages : (call new : Call) → new ≡ call → StagesOf call [] new
no_stages call new same = record { stages = []; are = refl; leads = tt; ends = sym same; logs = tt }

one_stage : (call new : Call) (turn : Turn) → Step turn.now call turn.input new turn.output → Logs call.log new.log → StagesOf call (turn ∷ []) new
one_stage call new turn steps logs = record { stages = record { turn = turn; call = new } ∷ []; are = refl; leads = (steps, tt); ends = refl; logs = (logs, tt) }

turns_append : (a b : List Stage) → turns_of (a ++ b) ≡ turns_of a ++ turns_of b
turns_append [] b = refl
turns_append (s ∷ a) b = ap (λ (ts : List Turn). s.turn ∷ ts) (turns_append a b)

pub end_append : (call : Call) (a b : List Stage) → end_of call (a ++ b) ≡ end_of (end_of call a) b
end_append call [] b = refl
end_append call (s ∷ a) b = end_append s.call a b

leads_append : (call : Call) (a b : List Stage) → Leads call a → Leads (end_of call a) b → Leads call (a ++ b)
leads_append call [] b first rest = rest
leads_append call (s ∷ a) b first rest = (first.0, leads_append s.call a b first.1 rest)

logs_append : (call : Call) (a b : List Stage) → LogEach call a → LogEach (end_of call a) b → LogEach call (a ++ b)
logs_append call [] b first rest = rest
logs_append call (s ∷ a) b first rest = (first.0, logs_append s.call a b first.1 rest)

-- one behind another
behind : (call mid new : Call) (a b : List Turn) → StagesOf call a mid → StagesOf mid b new → StagesOf call (a ++ b) new
behind call mid new a b first rest =
    let L : Call → Type 0 = λ x. Leads x rest.stages in
    let G : Call → Type 0 = λ x. LogEach x rest.stages in
    record {
      stages = first.stages ++ rest.stages;
      are = turns_append first.stages rest.stages
          ∙ ap (λ (ts : List Turn). ts ++ turns_of rest.stages) first.are
          ∙ ap (λ (ts : List Turn). a ++ ts) rest.are;
      leads = leads_append call first.stages rest.stages first.leads (subst L (sym first.ends) rest.leads);
      ends = end_append call first.stages rest.stages ∙ ap (λ (x : Call). end_of x rest.stages) first.ends ∙ rest.ends;
      logs = logs_append call first.stages rest.stages first.logs (subst G (sym first.ends) rest.logs);
    }

-- ---- of what a call answered

pumped_stage : (now : ℕ) (call new : Call) (pumped : Pumped) → Pumps call now pumped new → StagesOf call (pump_turn now pumped ∷ []) new
pumped_stage now call new pumped pumps = one_stage call new (pump_turn now pumped) pumps (pump_logs now call new pumped pumps)

failed_stage : (now : ℕ) (call new : Call) (why : Cause) → Fails call now why new → StagesOf call (failed_turn now why ∷ []) new
failed_stage now call new why fails = one_stage call new (failed_turn now why) fails (fail_logs now call new why fails)

step_stages : (now : ℕ) (call new : Call) (s : Carrying) → Carries now call s new → StagesOf call (turns_of_step now s) new
step_stages now call new (Sent d) (pumps, right) = pumped_stage now call new (pump.Send d) pumps
step_stages now call new (Lost d) (mid, pumps, right, fails) =
    behind call mid new (pump_turn now (pump.Send d) ∷ []) (failed_turn now d.cause ∷ []) (pumped_stage now call mid (pump.Send d) pumps) (failed_stage now mid new d.cause fails)
step_stages now call new Silent pumps = pumped_stage now call new pump.Did pumps

steps_stages : (now : ℕ) (call new : Call) (steps : List Carrying) → CarriesAll now call steps new → StagesOf call (turns_of_steps now steps) new
steps_stages now call new [] same = no_stages call new same
steps_stages now call new (s ∷ steps) (mid, first, rest) =
    behind call mid new (turns_of_step now s) (turns_of_steps now steps) (step_stages now call mid s first) (steps_stages now mid new steps rest)

lost_stages : (now : ℕ) (call new : Call) (lost : Option Datagram) → LosesUntold now call lost new → StagesOf call (turn_of_lost now lost) new
lost_stages now call new None same = no_stages call new same
lost_stages now call new (Some d) pumps = pumped_stage now call new (pump.Send d) pumps

given_to : (call : Call) (m : MessageText) (r : to.MatchedTransaction) → BelongsTo call m r → IsMessage m → IsGivenTo r m
given_to call m to.Server belongs is = tt
given_to call m to.ServerAck belongs is = tt
given_to call m to.ServerCancel belongs is = tt
given_to call m (to.Client n) belongs is = (is, belongs.1)
given_to call m (to.CancelClient n) belongs is = tt

given_append : (a b : List Turn) → GivenTurns a → GivenTurns b → GivenTurns (a ++ b)
given_append [] b first rest = rest
given_append (t ∷ a) b first rest = (first.0, given_append a b first.1 rest)

given_step : (now : ℕ) (s : Carrying) → GivenTurns (turns_of_step now s)
given_step now (Sent d) = (tt, tt)
given_step now (Lost d) = (tt, (tt, tt))
given_step now Silent = (tt, tt)

given_steps : (now : ℕ) (steps : List Carrying) → GivenTurns (turns_of_steps now steps)
given_steps now [] = tt
given_steps now (s ∷ steps) = given_append (turns_of_step now s) (turns_of_steps now steps) (given_step now s) (given_steps now steps)

given_lost : (now : ℕ) (lost : Option Datagram) → GivenTurns (turn_of_lost now lost)
given_lost now None = tt
given_lost now (Some d) = (tt, tt)

-- ---- what is sent

sent_append : (a b : List Turn) → sent_by (a ++ b) ≡ sent_by a ++ sent_by b
sent_append [] b = refl
sent_append (t ∷ a) b =
    ap (λ (ds : List Datagram). one_sent t.output ++ ds) (sent_append a b) ∙ sym (append_assoc (one_sent t.output) (sent_by a) (sent_by b))

sent_step : (now : ℕ) (s : Carrying) (steps : List Carrying) → sent_by (turns_of_step now s) ++ datagrams_of steps ≡ datagrams_of (s ∷ steps)
sent_step now (Sent d) steps = refl
sent_step now (Lost d) steps = refl
sent_step now Silent steps = refl

sent_steps : (now : ℕ) (steps : List Carrying) → sent_by (turns_of_steps now steps) ≡ datagrams_of steps
sent_steps now [] = refl
sent_steps now (s ∷ steps) =
    sent_append (turns_of_step now s) (turns_of_steps now steps)
    ∙ ap (λ (ds : List Datagram). sent_by (turns_of_step now s) ++ ds) (sent_steps now steps)
    ∙ sent_step now s steps

sent_lost : (now : ℕ) (lost : Option Datagram) → sent_by (turn_of_lost now lost) ≡ one_lost lost
sent_lost now None = refl
sent_lost now (Some d) = refl

sent_pumped : (now : ℕ) (pumped : Pumped) → sent_by (pump_turn now pumped ∷ []) ≡ one_given pumped
sent_pumped now (pump.Send d) = refl
sent_pumped now pump.Did = refl
sent_pumped now pump.Idle = refl

-- ---- one call

record OneCall (now : ℕ) (call : Call) (answer : Answer) (new : Call) : Type 0 where
  pub turns : List Turn
  pub of : StagesOf call turns new
  pub are : AreTurnsOf now call answer turns
  pub sends : sent_by turns ≡ handed_by answer
  pub given : IsSaid answer → GivenTurns turns

one_call : (now : ℕ) (call new : Call) (answer : Answer) → Answers now call answer new → OneCall now call answer new
one_call now call new (runs.Took m source taken) (r, belongs, takes) =
    let turn : Turn = record { now = now; input = step.Take r m source; output = step.Took taken } in
    record {
      turns = turn ∷ [];
      of = one_stage call new turn takes (logged call new _ _ (takes_touch call new now m source r taken takes));
      are = (r, belongs, refl);
      sends = refl;
      given = λ is. (given_to call m r belongs is, tt);
    }
one_call now call new (runs.Gave pumped) pumps = record {
  turns = pump_turn now pumped ∷ [];
  of = pumped_stage now call new pumped pumps;
  are = refl;
  sends = sent_pumped now pumped;
  given = λ is. (tt, tt);
}
one_call now call new (runs.Told why) fails = record {
  turns = failed_turn now why ∷ [];
  of = failed_stage now call new why fails;
  are = refl;
  sends = refl;
  given = λ is. (tt, tt);
}
one_call now call new (runs.Carried steps) carries = record {
  turns = turns_of_steps now steps;
  of = steps_stages now call new steps carries;
  are = refl;
  sends = sent_steps now steps;
  given = λ is. given_steps now steps;
}
one_call now call new (runs.CutOff steps lost) (mid, carries, loses) = record {
  turns = turns_of_steps now steps ++ turn_of_lost now lost;
  of = behind call mid new (turns_of_steps now steps) (turn_of_lost now lost) (steps_stages now call mid steps carries) (lost_stages now mid new lost loses);
  are = refl;
  sends = sent_append (turns_of_steps now steps) (turn_of_lost now lost)
      ∙ ap (λ (ds : List Datagram). ds ++ sent_by (turn_of_lost now lost)) (sent_steps now steps)
      ∙ ap (λ (ds : List Datagram). datagrams_of steps ++ ds) (sent_lost now lost);
  given = λ is. given_append (turns_of_steps now steps) (turn_of_lost now lost) (given_steps now steps) (given_lost now lost);
}
one_call now call new runs.Refused same = record { turns = []; of = no_stages call new same; are = refl; sends = refl; given = λ is. tt }

-- ---- all calls

given_stages : (stages : List Stage) → GivenTurns (turns_of stages) → AreGiven stages
given_stages [] given = tt
given_stages (s ∷ stages) given = (given.0, given_stages stages given.1)

areas_append : (a b : List Stage) → AreGiven a → AreGiven b → AreGiven (a ++ b)
areas_append [] b first rest = rest
areas_append (s ∷ a) b first rest = (first.0, areas_append a b first.1 rest)

pub calls_have_stages : CallsHaveStages
calls_have_stages call new [] same = ([], record { leads = tt; ends = sym same; turns = refl; sends = refl; logs = tt; given = λ said. tt })
calls_have_stages call new (answer ∷ answers) (mid, first, rest) =
    let one = one_call answer.now call mid answer.answer first in
    let later = calls_have_stages mid new answers rest in
    let before = one.of.stages in
    let after = later.0 in
    let ends = one.of.ends in
    let L : Call → Type 0 = λ x. Leads x after in
    let G : Call → Type 0 = λ x. LogEach x after in
    let T : Call → Type 0 = λ x. AreTurns x answers after in
    let O : List Turn → Type 0 = λ ts. AreTurnsOf answer.now call answer.answer ts in
    let W : List Turn → Type 0 = λ ts. GivenTurns ts in (
      before ++ after,
      record {
        leads = leads_append call before after one.of.leads (subst L (sym ends) later.1.leads);
        ends = end_append call before after ∙ ap (λ (x : Call). end_of x after) ends ∙ later.1.ends;
        turns = (before, after, subst O (sym one.of.are) one.are, refl, subst T (sym ends) later.1.turns);
        sends = ap sent_by (turns_append before after)
            ∙ sent_append (turns_of before) (turns_of after)
            ∙ ap (λ (ts : List Turn). sent_by ts ++ sent_by (turns_of after)) one.of.are
            ∙ ap (λ (ds : List Datagram). ds ++ sent_by (turns_of after)) one.sends
            ∙ ap (λ (ds : List Datagram). handed_by answer.answer ++ ds) later.1.sends;
        logs = logs_append call before after one.of.logs (subst G (sym ends) later.1.logs);
        given = λ said. areas_append before after (given_stages before (subst W (sym one.of.are) (one.given said.0))) (later.1.given said.1);
      },
    )

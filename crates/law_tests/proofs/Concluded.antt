-- What the laws conclude of a call that was played to its end.
use Rattle.std.proofs.Common.{◌≡◌, ℕ, true, false, List, [], sym, subst}
use Rattle.fork_model.specs.Table.{is_finished, is_succeeded}
use Rattle.sip_text.specs.Text.{MessageText}
use Rattle.sip_uri.specs.declared.hop.Hop.{Hop}
use Rattle.call_model.specs.Call.{Call, rows_of}
use Rattle.call_laws.specs.Answers.{AnswersOnce, AreGiven}
use Rattle.call_laws.specs.Stages.{Leads, Stage, end_of}
use Rattle.proxy_config.specs.Setup.{Setup}
use Rattle.fork_call.specs.Opening.{Opens}
use Rattle.fork_call.specs.Answered.{EachDatagramIsRight, EachSuccessGoesUp, OneFinalAnswerGoesUp, OpenedCallsPayInOrder}
use Rattle.fork_call.specs.Runs.{CallsHaveStages}
use Rattle.law_tests.specs.Played.{HasEnded, PlayedCallsEndRight}

-- one final answer went up, where the stages end so
once_at_end : OneFinalAnswerGoesUp → (setup : Setup) (number : ℕ) (m : MessageText) (source : Hop) (call new : Call) (stages : List Stage) → Opens setup number m source call
    → AreGiven stages → Leads call stages → new ≡ end_of call stages → HasEnded new → AnswersOnce call stages
once_at_end once setup number m source call new stages opens given leads ends ended =
    let F : Call → Type 0 = λ x. is_finished (rows_of x) ≡ true in
    let S : Call → Type 0 = λ x. is_succeeded (rows_of x) ≡ false in
    let O : Call → Type 0 = λ x. x.server.owed ≡ [] in
    once setup number m source call stages opens given leads (subst F ends ended.finished) (subst S ends ended.failed) (subst O ends ended.paid)

pub concluded : CallsHaveStages → OpenedCallsPayInOrder → OneFinalAnswerGoesUp → EachSuccessGoesUp → EachDatagramIsRight → PlayedCallsEndRight
concluded have pays once up each setup number m source call new opens (answers, all, said) ended =
    let of_call = have call new answers all in
    let stages = of_call.0 in
    let are = of_call.1 in
    let given = are.given said in
    let L : List Stage → Type 0 = λ xs. Leads call xs in
    let G : List Stage → Type 0 = λ xs. AreGiven xs in
    record {
      number = number;
      call = call;
      new = new;
      answers = answers;
      stages = stages;
      opens = opens;
      ends = ended;
      are = are;
      pays = pays setup number m source call stages opens given are.leads;
      once = once_at_end once setup number m source call new stages opens given are.leads (sym are.ends) ended;
      goes_up = λ before stage later answer invite split posts.
          up setup number m source call before stage later answer opens invite (subst G split given) (subst L split are.leads) posts;
      right = λ before stage later d split sends.
          each setup number m source call before stage later d opens (subst G split given) (subst L split are.leads) sends;
    }

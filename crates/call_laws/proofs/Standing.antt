-- How a call stands as it begins, and after each step.
use Rattle.std.proofs.Common.{◌≡◌, ◌++◌, ◌∷◌, ℕ, zero, suc, Bool, true, false, List, [], map, Some, refl, sym, subst, inl, slice_get, cond}
use Rattle.std.specs.List.{AllByRecursion}
use Rattle.fork_model.specs.History.{Target}
use Rattle.fork_model.specs.Log.{opening_log}
use Rattle.fork_model.specs.Steps.{BranchesGoOn}
use Rattle.fork_model.specs.Table.{Kind, Row, Rules}
use Rattle.fork_model.specs.Table as table
use Rattle.call_model.specs.Begun.{begun}
use Rattle.sip_text.specs.Text.{MessageText}
use Rattle.call_model.specs.Behind.{BegunKeepsAnswers, FirstsStayOrCome, StepsKeepAnswers}
use Rattle.call_model.specs.Built.{answer_in}
use Rattle.call_model.specs.Call.{Call, found}
use Rattle.call_model.specs.Datagrams.{BegunIsBuilt, StepsKeepBuilt}
use Rattle.call_model.specs.OpenedRequest.{OpenedRequest, Destination, is_invite, kind_of}
use Rattle.call_model.specs.Branch.{Branch}
use Rattle.call_model.specs.Posting.{no_branch}
use Rattle.call_model.specs.Reliability.{reliability_of}
use Rattle.sip_txn.specs.declared.timers.Reliability.{Reliability}
use Rattle.call_model.specs.Server.{Owed, first_owed, served_start}
use Rattle.call_laws.specs.Finals.{Awaits, FinalsStand, MayBeOwed, finals_owed, has_failed, is_for_invite}
use Rattle.call_laws.specs.Last.{IsUnsent}
use Rattle.call_laws.specs.Origins.{IsOkayOf}
use Rattle.call_laws.specs.Right.{BegunStands, StepsStand}
use Rattle.call_laws.specs.Stages.{Stage}
use Rattle.call_laws.proofs.Accepted.{KeepsAccepted}
use Rattle.call_laws.proofs.Finals.{finals_step, owes_step}
use Rattle.call_laws.proofs.Last.{last_step}
use Rattle.call_laws.proofs.Branches.{state}
use Rattle.call_laws.proofs.Origins.{origins_step}
use Rattle.call_laws.proofs.Paying.{paid_is}
use Rattle.call_laws.proofs.Serving.{serves}

-- ---- as it begins

no_part : (rows : List Row) (n : ℕ) (branch : Branch) → found (slice_get (map no_branch rows) n) ≡ Some branch → ⊥
no_part [] n branch e = absurd cc
no_part (row ∷ rows) zero branch e = absurd cc
no_part (row ∷ rows) (suc n) branch e = no_part rows n branch e

no_answer : (rows : List Row) (n : ℕ) (m : MessageText) → answer_in (found (slice_get (map no_branch rows) n)) ≡ Some m → ⊥
no_answer [] n m e = absurd cc
no_answer (row ∷ rows) zero m e = absurd cc
no_answer (row ∷ rows) (suc n) m e = no_answer rows n m e

first_finals : (kind : Kind) → finals_owed (first_owed kind) ≡ []
first_finals table.Invite = refl
first_finals table.Other = refl

first_responses : (call : Call) (kind : Kind) → AllByRecursion (MayBeOwed call) (first_owed kind)
first_responses call table.Invite = (tt, tt)
first_responses call table.Other = tt

first_okays : (kind : Kind) → AllByRecursion (IsOkayOf []) (first_owed kind)
first_okays table.Invite = (tt, tt)
first_okays table.Other = tt

first_waits : (kind : Kind) (r : Reliability) → Awaits [] (served_start kind r)
first_waits table.Invite r = refl
first_waits table.Other r = inl refl

first_unfailed : (kind : Kind) (r : Reliability) → has_failed (served_start kind r) ≡ false
first_unfailed table.Invite r = refl
first_unfailed table.Other r = refl

first_unsent : (kind : Kind) (r : Reliability) → IsUnsent (served_start kind r) (first_owed kind)
first_unsent table.Invite r = (refl, [], refl)
first_unsent table.Other r = (refl, tt)

first_side : (opened : OpenedRequest) (r : Reliability) → is_for_invite (served_start (kind_of opened) r) ≡ is_invite opened
first_side opened r = by (is_invite opened)
  where
    by : (b : Bool) → is_for_invite (served_start (cond {A = Kind} b table.Invite table.Other) r) ≡ b
    by true = refl
    by false = refl

pub begun_stands : BegunIsBuilt → BegunKeepsAnswers → BegunStands
begun_stands built answers opened rules targets destinations =
    let log = opening_log (kind_of opened) rules targets in
    let call = begun opened log destinations in
    let r = reliability_of opened.caller.transport in
    record {
      built = built opened log destinations;
      answers = answers opened rules targets destinations;
      origins = record {
        acks = λ n branch bytes there is. absurd (no_part _ n branch there);
        okays = first_okays (kind_of opened);
        answers = λ n branch m there is. absurd (no_part _ n branch there);
        posted = λ n stored has came first. let kept = answers opened rules targets destinations n stored has came first in absurd (no_answer _ n kept.0 kept.1);
      };
      owed = first_responses call (kind_of opened);
      finals = record {
        side = first_side opened r;
        all = sym (first_finals (kind_of opened));
        waiting = λ none not_yet. first_waits (kind_of opened) r;
        answered = λ some. absurd (some refl);
        unfailed = λ none. first_unfailed (kind_of opened) r;
      };
      last = λ none. first_unsent (kind_of opened) r;
    }

-- no branch has accepted a 2xx
pub none_accepted : (opened : OpenedRequest) (rules : Rules) (targets : List Target) (destinations : List Destination) → KeepsAccepted (begun opened (opening_log (kind_of opened) rules targets) destinations)
none_accepted opened rules targets destinations n branch there has = absurd (no_part _ n branch there)

-- ---- after a step

pub steps_stand : StepsKeepBuilt → StepsKeepAnswers → FirstsStayOrCome → BranchesGoOn → StepsStand
steps_stand built answers firsts goes_on turns handed turn call new sound stands step =
    let stage : Stage = record { turn = turn; call = new } in
    let p = state turn.now call turn.input new turn.output step in
    let s = serves turn.now call turn.input new turn.output step in
    let F : List Owed → Type 0 = λ os. FinalsStand (turns ++ turn ∷ []) (handed ++ finals_owed os) new in
    record {
      built = built turn call new stands.built step;
      answers = answers turn call new sound stands.answers step;
      origins = origins_step turns turn call new firsts sound step stands.origins;
      owed = owes_step goes_on turns turn call new p.opened s stands.owed;
      finals = subst F (sym (paid_is turns call stage s)) (finals_step goes_on turns turn call new p.opened handed s stands.owed stands.origins.answers stands.finals);
      last = last_step turn.now call new turn.input turn.output s stands.last;
    }

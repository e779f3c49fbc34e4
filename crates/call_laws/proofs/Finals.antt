-- What a step leaves of how the final answers stand.
use Rattle.std.proofs.Common.{◌≡◌, ◌∙◌, ◌++◌, ◌∷◌, ◌≤◌, ℕ, Bool, true, false, List, [], length, Option, Some, None, IfSome, ap, refl, sym, subst, inl, inr, nat_lt, slice_get, arith, append-nil, append_assoc}
use Rattle.std.proofs.lemmas.Bool.{cond-false, cond_both, le-ltb, ltb-false}
use Rattle.std.specs.List.{AllByRecursion}
use Rattle.fork_model.specs.Challenges.{challenge_list}
use Rattle.fork_model.specs.Choice.{Choice, Best, Only503, NoAnswer408, stored_at}
use Rattle.fork_model.specs.Event.{Event}
use Rattle.fork_model.specs.History.{finals, with_final}
use Rattle.fork_model.specs.Log.{Log, added, table_of}
use Rattle.fork_model.specs.Reply.{Reply, IsReply, IsUp, Up, Nothing, Provisional, Success, Final, provisional}
use Rattle.fork_model.specs.Step.{next}
use Rattle.fork_model.specs.Steps.{BranchesGoOn}
use Rattle.fork_model.specs.Table.{Table, is_succeeded}
use Rattle.sip_text.specs.Text.{MessageText}
use Rattle.sip_build.specs.declared.responses.OwnStatus.TheVariants as own
use Rattle.sip_build.specs.Upward.{upward_of}
use Rattle.call_model.specs.Built.{answer_in, answer_of, best_of, final_of, generated, kept_at, status_of, was_received}
use Rattle.call_model.specs.Call.{Call, nth_branch, rows_of}
use Rattle.call_model.specs.OpenedRequest.{is_invite}
use Rattle.call_model.specs.Branch.{Branch}
use Rattle.call_model.specs.Posting.{call_tag, owed_by, passed}
use Rattle.call_model.specs.Server as server
use Rattle.call_model.specs.Server.{Owed, ServerTransaction, InviteServer, OtherServer, answer_event, served_after}
use Rattle.sip_txn.specs.declared.event.TxEvent.{TxEvent}
use Rattle.sip_txn.specs.declared.event.TxEvent.TheVariants as event
use Rattle.call_model.specs.Step.{Input, Output, Turn}
use Rattle.call_model.specs.Take.{again_if}
use Rattle.call_model.proofs.laws.Logs.{table_added}
use Rattle.call_laws.specs.Finals.{FinalsStand, Awaits, MayBeOwed, OwesResponses, finals_owed, has_failed, is_for_invite, waits}
use Rattle.call_laws.specs.Origins.{KeepsWhatCame}
use Rattle.call_laws.proofs.Serving.{GoesUp, Serves, Beside, Posted, Cancelled, CancelledBoth, Acked, Faulted, Ticked, Repeated, Sent, Dropped, Again, Okayed}
use Rattle.call_laws.proofs.Succeeds.{succeeded_before, success_succeeds}
use Rattle.call_laws.proofs.Origins.{Later, one_of, this_one}
use Rattle.call_laws.proofs.Waits.{Goes, HasGone, NoneFails, ack_goes, ack_gone, ack_unfailed, answered_unfailed, answered_waits, error_goes, error_gone, error_unfailed, failure_waits, provisional_waits, request_goes, request_gone, request_unfailed, same_side, tick_goes, tick_gone, tick_unfailed}

-- ---- lists

with_more : (up : Up) (choices more : List Choice) → with_final up (choices ++ more) ≡ with_final up choices ++ more
with_more Nothing choices more = refl
with_more (Provisional n) choices more = refl
with_more (Success n) choices more = refl
with_more (Final choice) choices more = refl

pub finals_more : (replies : List Reply) (r : Reply) → finals (replies ++ r ∷ []) ≡ finals replies ++ with_final r.up []
finals_more [] r = refl
finals_more (x ∷ replies) r = ap (with_final x.up) (finals_more replies r) ∙ with_more x.up (finals replies) (with_final r.up [])

pub owed_more : (os ps : List Owed) → finals_owed (os ++ ps) ≡ finals_owed os ++ finals_owed ps
owed_more [] ps = refl
owed_more (server.Trying ∷ os) ps = owed_more os ps
owed_more (server.Passed m ∷ os) ps = owed_more os ps
owed_more (server.Final choice ∷ os) ps = ap (λ (cs : List Choice). choice ∷ cs) (owed_more os ps)
owed_more (server.Again ∷ os) ps = owed_more os ps
owed_more (server.CancelOk cancel to ∷ os) ps = owed_more os ps

passed_none : (response : Option MessageText) → finals_owed (passed response) ≡ []
passed_none None = refl
passed_none (Some m) = refl

owed_up : (up : Up) (response : Option MessageText) → finals_owed (owed_by up response) ≡ with_final up []
owed_up Nothing response = refl
owed_up (Provisional n) response = passed_none response
owed_up (Success n) response = passed_none response
owed_up (Final choice) response = refl

again_none : (b : Bool) → finals_owed (again_if b) ≡ []
again_none true = refl
again_none false = refl

-- ---- statuses

pub below : (status : ℕ) → nat_lt status 300 ≡ false → nat_lt status 200 ≡ false
below status e = let h : 300 ≤ status = ltb-false status 300 e in le-ltb status 200 (omega (arith, h))

-- a final answer is a failure
pub final_failure : (turns : List Turn) (call : Call) → KeepsWhatCame turns call → (choice : Choice) → nat_lt (status_of (final_of call choice)) 300 ≡ false
final_failure turns call keeps (Only503 n) = refl
final_failure turns call keeps NoAnswer408 = refl
final_failure turns call keeps (Best n) = at_branch (nth_branch call n) refl
  where
    at_answer : (branch : Branch) → nth_branch call n ≡ Some branch → (o : Option MessageText) → branch.answer ≡ o → nat_lt (status_of (best_of call n o)) 300 ≡ false
    at_answer branch there None is = refl
    at_answer branch there (Some m) is =
        cond_both (was_received (stored_at (slice_get (rows_of call) n)))
        (upward_of m (kept_at (stored_at (slice_get (rows_of call) n))) (challenge_list (rows_of call) (Best n))) (generated call.opened own.RequestTimeout)
        (λ (x : MessageText). nat_lt (status_of x) 300 ≡ false) (λ received. (keeps n branch m there is).1) (λ assumed. refl)

    at_branch : (l : Option Branch) → nth_branch call n ≡ l → nat_lt (status_of (best_of call n (answer_in l))) 300 ≡ false
    at_branch None there = refl
    at_branch (Some branch) there = at_answer branch there branch.answer refl

some_final : (xs : List Choice) (c : Choice) → xs ++ c ∷ [] ≡ [] → ⊥
some_final [] c e = absurd cc
some_final (x ∷ xs) c e = absurd cc

pub some_same : (x y : MessageText) → Some x ≡ Some y → x ≡ y
some_same x y e = cc

all_more : (P : Owed → Type 0) (xs ys : List Owed) → AllByRecursion P xs → AllByRecursion P ys → AllByRecursion P (xs ++ ys)
all_more P [] ys h k = k
all_more P (x ∷ xs) ys h k = (h.0, all_more P xs ys h.1 k)

all_as : (P Q : Owed → Type 0) → ((o : Owed) → P o → Q o) → (xs : List Owed) → AllByRecursion P xs → AllByRecursion Q xs
all_as P Q f [] h = tt
all_as P Q f (x ∷ xs) h = (f x h.0, all_as P Q f xs h.1)

-- what was owed first, and is owed no more
abbrev pub paid : {now : ℕ} {call : Call} {input : Input} {output : Output} {new : Call} → Serves now call input output new → List Owed
paid (Beside l s) = []
paid (Posted ev response reply goes is l s) = []
paid (Cancelled cancel hop marked l s) = []
paid (CancelledBoth cancel hop ev reply marked is l s) = []
paid (Acked l s) = []
paid (Faulted why l s) = []
paid (Ticked sends out is l s) = []
paid (Repeated sends is l s) = []
paid (Sent owed rest m is made sends out l s) = owed ∷ []
paid (Dropped owed rest m is made sends out l s) = owed ∷ []
paid (Again rest is out l s) = server.Again ∷ []
paid (Okayed cancel hop rest is out l s) = server.CancelOk cancel hop ∷ []

module _ (goes_on : BranchesGoOn) (turns : List Turn) (turn : Turn) (call new : Call) (opened : new.opened ≡ call.opened) where
  -- ---- whether it has succeeded

  same_succeeded : new.log ≡ call.log → is_succeeded (rows_of new) ≡ false → is_succeeded (rows_of call) ≡ false
  same_succeeded l e = sym (ap (λ (x : Log). is_succeeded (table_of x).rows) l) ∙ e

  next_table : (ev : Event) (reply : Reply) → new.log ≡ added call.log call_tag ev reply → table_of new.log ≡ next (table_of call.log) ev (length call.log.history)
  next_table ev reply l = ap table_of l ∙ table_added call.log call_tag ev reply

  more_succeeded : (ev : Event) (reply : Reply) → new.log ≡ added call.log call_tag ev reply → is_succeeded (rows_of new) ≡ false → is_succeeded (rows_of call) ≡ false
  more_succeeded ev reply l e =
      succeeded_before (table_of call.log) (next (table_of call.log) ev (length call.log.history)) (goes_on (table_of call.log) ev (length call.log.history))
      (sym (ap (λ (t : Table). is_succeeded t.rows) (next_table ev reply l)) ∙ e)

  -- ---- how the finals stand

  kept : (handed f : List Choice) → FinalsStand turns handed call
      → finals new.log.replies ≡ finals call.log.replies ++ f
      → finals_owed new.server.owed ≡ finals_owed call.server.owed ++ f
      → (is_succeeded (rows_of new) ≡ false → is_succeeded (rows_of call) ≡ false)
      → is_for_invite new.server.machine ≡ is_for_invite call.server.machine
      → (is_succeeded (rows_of call) ≡ false → Awaits turns call.server.machine → Awaits (Later turns turn) new.server.machine)
      → (waits call.server.machine ≡ false → waits new.server.machine ≡ false)
      → (has_failed call.server.machine ≡ false → has_failed new.server.machine ≡ false)
      → FinalsStand (Later turns turn) (handed ++ []) new
  kept handed f stand log owed succ side goes gone none_fails =
      let S : List Choice → Type 0 = λ cs. FinalsStand (Later turns turn) cs new in
      subst S (sym (append-nil handed)) (record {
        side = side ∙ stand.side ∙ ap is_invite (sym opened);
        all = log ∙ ap (λ (cs : List Choice). cs ++ f) stand.all ∙ append_assoc handed (finals_owed call.server.owed) f ∙ ap (λ (cs : List Choice). handed ++ cs) (sym owed);
        waiting = λ none not_yet. goes (succ not_yet) (stand.waiting none (succ not_yet));
        answered = λ some. gone (stand.answered some);
        unfailed = λ none. none_fails (stand.unfailed none);
      })

  -- without an event
  quiet : (handed : List Choice) → FinalsStand turns handed call → new.log ≡ call.log → finals_owed new.server.owed ≡ finals_owed call.server.owed
      → is_for_invite new.server.machine ≡ is_for_invite call.server.machine
      → (is_succeeded (rows_of call) ≡ false → Awaits turns call.server.machine → Awaits (Later turns turn) new.server.machine)
      → (waits call.server.machine ≡ false → waits new.server.machine ≡ false)
      → (has_failed call.server.machine ≡ false → has_failed new.server.machine ≡ false)
      → FinalsStand (Later turns turn) (handed ++ []) new
  quiet handed stand l owed side goes gone none_fails =
      kept handed [] stand (ap (λ (x : Log). finals x.replies) l ∙ sym (append-nil (finals call.log.replies))) (owed ∙ sym (append-nil (finals_owed call.server.owed)))
      (same_succeeded l) side goes gone none_fails

  awaits_later : (machine : ServerTransaction) → Awaits turns machine → Awaits (Later turns turn) machine
  awaits_later (InviteServer m) e = e
  awaits_later (OtherServer m) (inl e) = inl e
  awaits_later (OtherServer m) (inr (ended, (t, is, failed))) = inr (ended, (t, one_of turns turn t is, failed))

  -- the transaction went on
  moved : (machine : ServerTransaction) → new.server.machine ≡ machine → Awaits turns machine → Awaits (Later turns turn) new.server.machine
  moved machine is e = let P : ServerTransaction → Type 0 = λ x. Awaits (Later turns turn) x in subst P (sym is) (awaits_later machine e)

  machine_same : new.server.machine ≡ call.server.machine → is_succeeded (rows_of call) ≡ false → Awaits turns call.server.machine → Awaits (Later turns turn) new.server.machine
  machine_same is not_yet e = moved call.server.machine is e

  -- with the same transaction
  beside : (handed : List Choice) → FinalsStand turns handed call → new.log ≡ call.log → finals_owed new.server.owed ≡ finals_owed call.server.owed
      → new.server.machine ≡ call.server.machine → FinalsStand (Later turns turn) (handed ++ []) new
  beside handed stand l owed is = quiet handed stand l owed (ap is_for_invite is) (machine_same is) (λ e. ap waits is ∙ e) (λ e. ap has_failed is ∙ e)

  -- with one that was told this
  told : (handed : List Choice) (ev : TxEvent) → FinalsStand turns handed call → new.log ≡ call.log → finals_owed new.server.owed ≡ finals_owed call.server.owed
      → new.server.machine ≡ served_after ev turn.now call.server.machine → Goes ev → HasGone ev → NoneFails ev → FinalsStand (Later turns turn) (handed ++ []) new
  told handed ev stand l owed is goes gone none_fails =
      quiet handed stand l owed (ap is_for_invite is ∙ same_side ev turn.now call.server.machine)
      (λ not_yet e. moved _ is (goes turns turn.now call.server.machine e)) (λ e. ap waits is ∙ gone turn.now call.server.machine e)
      (λ e. ap has_failed is ∙ none_fails turn.now call.server.machine e)

  -- with an event
  more : (handed : List Choice) (ev : Event) (reply : Reply) → FinalsStand turns handed call → new.log ≡ added call.log call_tag ev reply
      → finals_owed new.server.owed ≡ finals_owed call.server.owed ++ with_final reply.up []
      → new.server.machine ≡ call.server.machine → FinalsStand (Later turns turn) (handed ++ []) new
  more handed ev reply stand l owed is =
      kept handed (with_final reply.up []) stand (ap (λ (x : Log). finals x.replies) l ∙ finals_more call.log.replies reply) owed (more_succeeded ev reply l)
      (ap is_for_invite is) (machine_same is) (λ e. ap waits is ∙ e) (λ e. ap has_failed is ∙ e)

  -- an answer is handed to the caller's transaction
  handed_one : (handed : List Choice) (owed : Owed) (rest : List Owed) (m : MessageText) → call.server.owed ≡ owed ∷ rest → answer_of call owed ≡ Some m
      → new.log ≡ call.log → new.server.machine ≡ served_after (answer_event (status_of m)) turn.now call.server.machine → new.server.owed ≡ rest
      → OwesResponses call → KeepsWhatCame turns call → FinalsStand turns handed call → FinalsStand (Later turns turn) (handed ++ finals_owed (owed ∷ [])) new
  handed_one handed owed rest m is made l machine left owes keeps stand = by owed is made
    where
      side : is_for_invite new.server.machine ≡ is_for_invite call.server.machine
      side = ap is_for_invite machine ∙ same_side (answer_event (status_of m)) turn.now call.server.machine

      plain : finals_owed call.server.owed ≡ finals_owed rest → (is_succeeded (rows_of call) ≡ false → nat_lt (status_of m) 200 ≡ true)
          → nat_lt (status_of m) 300 ≡ true → FinalsStand (Later turns turn) (handed ++ []) new
      plain same small no_failure =
          quiet handed stand l (ap finals_owed left ∙ sym same) side
          (λ not_yet e. moved (served_after (answer_event (status_of m)) turn.now call.server.machine) machine
          (provisional_waits turns (status_of m) turn.now call.server.machine (small not_yet) e))
          (λ e. ap waits machine ∙ answered_waits (status_of m) turn.now call.server.machine e)
          (λ e. ap has_failed machine ∙ answered_unfailed (status_of m) turn.now call.server.machine no_failure e)

      final : (choice : Choice) → finals_owed call.server.owed ≡ choice ∷ finals_owed rest → nat_lt (status_of m) 300 ≡ false
          → FinalsStand (Later turns turn) (handed ++ choice ∷ []) new
      final choice first failure = record {
        side = side ∙ stand.side ∙ ap is_invite (sym opened);
        all = ap (λ (x : Log). finals x.replies) l ∙ stand.all ∙ ap (λ (cs : List Choice). handed ++ cs) first
            ∙ sym (append_assoc handed (choice ∷ []) (finals_owed rest)) ∙ ap (λ (os : List Owed). (handed ++ choice ∷ []) ++ finals_owed os) (sym left);
        waiting = λ none not_yet. absurd (some_final handed choice none);
        answered = λ some. ap waits machine ∙ failure_waits (status_of m) turn.now call.server.machine (below (status_of m) failure) failure;
        unfailed = λ none. absurd (some_final handed choice none);
      }

      by : (o : Owed) → call.server.owed ≡ o ∷ rest → answer_of call o ≡ Some m → FinalsStand (Later turns turn) (handed ++ finals_owed (o ∷ [])) new
      by server.Trying at made =
          let status = ap status_of (some_same _ _ made) in
          plain (ap finals_owed at) (λ not_yet. ap (λ (k : ℕ). nat_lt k 200) (sym status)) (ap (λ (k : ℕ). nat_lt k 300) (sym status))
      by (server.Passed x) at made =
          let status = ap status_of (some_same _ _ made) in
          let A : List Owed → Type 0 = λ os. AllByRecursion (MayBeOwed call) os in
          let head = subst A at owes in
          plain (ap finals_owed at) (λ not_yet. ap (λ (k : ℕ). nat_lt k 200) (sym status) ∙ head.0.1 not_yet) (ap (λ (k : ℕ). nat_lt k 300) (sym status) ∙ head.0.0)
      by (server.Final choice) at made =
          let status = ap status_of (some_same _ _ made) in
          final choice (ap finals_owed at) (ap (λ (k : ℕ). nat_lt k 300) (sym status) ∙ final_failure turns call keeps choice)
      by server.Again at made = absurd cc
      by (server.CancelOk cancel to) at made = absurd cc

  abbrev owed_of : server.Server → List Choice
  owed_of x = finals_owed x.owed

  abbrev machine_of : server.Server → ServerTransaction
  machine_of x = x.machine

  pub finals_step : (handed : List Choice) (s : Serves turn.now call turn.input turn.output new) → OwesResponses call → KeepsWhatCame turns call
      → FinalsStand turns handed call → FinalsStand (Later turns turn) (handed ++ finals_owed (paid s)) new
  finals_step handed (Beside l s) owes keeps stand = beside handed stand l (ap owed_of s) (ap machine_of s)
  finals_step handed (Posted ev response reply goes is l s) owes keeps stand =
      more handed ev reply stand l
      (ap owed_of s ∙ owed_more call.server.owed (owed_by reply.up response) ∙ ap (λ (cs : List Choice). finals_owed call.server.owed ++ cs) (owed_up reply.up response))
      (ap machine_of s)
  finals_step handed (Cancelled cancel hop marked l s) owes keeps stand =
      beside handed stand l (ap owed_of s ∙ owed_more call.server.owed (server.CancelOk cancel hop ∷ []) ∙ append-nil (finals_owed call.server.owed)) (ap machine_of s)
  finals_step handed (CancelledBoth cancel hop ev reply marked is l s) owes keeps stand =
      more handed ev reply stand l
      (ap owed_of s ∙ owed_more (call.server.owed ++ server.CancelOk cancel hop ∷ []) (owed_by reply.up None)
      ∙ ap (λ (cs : List Choice). cs ++ finals_owed (owed_by reply.up None)) (owed_more call.server.owed (server.CancelOk cancel hop ∷ []) ∙ append-nil (finals_owed call.server.owed))
      ∙ ap (λ (cs : List Choice). finals_owed call.server.owed ++ cs) (owed_up reply.up None))
      (ap machine_of s)
  finals_step handed (Acked l s) owes keeps stand = told handed event.Ack stand l (ap owed_of s) (ap machine_of s) ack_goes ack_gone ack_unfailed
  finals_step handed (Faulted why l s) owes keeps stand =
      quiet handed stand l (ap owed_of s) (ap (λ (x : server.Server). is_for_invite x.machine) s ∙ same_side event.TransportError turn.now call.server.machine)
      (λ not_yet e.
      let P : ServerTransaction → Type 0 = λ x. Awaits (Later turns turn) x in
      subst P (sym (ap machine_of s)) (error_goes (Later turns turn) turn.now call.server.machine (turn, this_one turns turn, why) (awaits_later call.server.machine e)))
      (λ e. ap (λ (x : server.Server). waits x.machine) s ∙ error_gone turn.now call.server.machine e)
      (λ e. ap (λ (x : server.Server). has_failed x.machine) s ∙ error_unfailed turn.now call.server.machine e)
  finals_step handed (Ticked sends out is l s) owes keeps stand = told handed event.Tick stand l (ap owed_of s) (ap machine_of s) tick_goes tick_gone tick_unfailed
  finals_step handed (Repeated sends is l s) owes keeps stand =
      told handed event.Request stand l
      (ap owed_of s ∙ owed_more call.server.owed (again_if sends) ∙ ap (λ (cs : List Choice). finals_owed call.server.owed ++ cs) (again_none sends)
      ∙ append-nil (finals_owed call.server.owed)) (ap machine_of s) request_goes request_gone request_unfailed
  finals_step handed (Sent owed rest m is made sends out l s) owes keeps stand =
      handed_one handed owed rest m is made l (ap machine_of s) (ap (λ (x : server.Server). x.owed) s) owes keeps stand
  finals_step handed (Dropped owed rest m is made sends out l s) owes keeps stand =
      handed_one handed owed rest m is made l (ap machine_of s) (ap (λ (x : server.Server). x.owed) s) owes keeps stand
  finals_step handed (Again rest is out l s) owes keeps stand = beside handed stand l (ap owed_of s ∙ sym (ap finals_owed is)) (ap machine_of s)
  finals_step handed (Okayed cancel hop rest is out l s) owes keeps stand = beside handed stand l (ap owed_of s ∙ sym (ap finals_owed is)) (ap machine_of s)

  -- ---- what is owed

  mono : (is_succeeded (rows_of new) ≡ false → is_succeeded (rows_of call) ≡ false) → (o : Owed) → MayBeOwed call o → MayBeOwed new o
  mono succ server.Trying h = tt
  mono succ (server.Passed m) h = (h.0, λ not_yet. h.1 (succ not_yet))
  mono succ (server.Final choice) h = tt
  mono succ server.Again h = tt
  mono succ (server.CancelOk cancel to) h = tt

  abbrev Owes : List Owed → Type 0
  Owes os = AllByRecursion (MayBeOwed new) os

  still : (is_succeeded (rows_of new) ≡ false → is_succeeded (rows_of call) ≡ false) → OwesResponses call → Owes call.server.owed
  still succ owes = all_as (MayBeOwed call) (MayBeOwed new) (mono succ) call.server.owed owes

  plus : (more : List Owed) → (is_succeeded (rows_of new) ≡ false → is_succeeded (rows_of call) ≡ false) → OwesResponses call → Owes more → Owes (call.server.owed ++ more)
  plus more succ owes h = all_more (MayBeOwed new) call.server.owed more (still succ owes) h

  again_owed : (b : Bool) → Owes (again_if b)
  again_owed true = (tt, tt)
  again_owed false = tt

  rest_owed : (owed : Owed) (rest : List Owed) → call.server.owed ≡ owed ∷ rest → new.log ≡ call.log → OwesResponses call → Owes rest
  rest_owed owed rest is l owes =
      let A : List Owed → Type 0 = λ os. Owes os in
      (subst A is (still (same_succeeded l) owes)).1

  -- a response that goes up with an event
  up_owed : (ev : Event) (reply : Reply) (response : Option MessageText) → new.log ≡ added call.log call_tag ev reply
      → IfSome response (GoesUp call.opened turn.input turn.output ev reply.at) → (up : Up)
      → (reply.up ≡ up) → IsReply (table_of call.log) ev (length call.log.history) reply → Owes (owed_by up response)
  up_owed ev reply response l goes Nothing same is = tt
  up_owed ev reply response l goes (Final choice) same is = (tt, tt)
  up_owed ev reply None l goes (Provisional n) same is = tt
  up_owed ev reply (Some m) l goes (Provisional n) same is = ((goes.5, λ not_yet. by (nat_lt (status_of m) 200) refl), tt)
    where
      up_is : IsUp (table_of call.log) ev (next (table_of call.log) ev (length call.log.history)) (Provisional n)
      up_is = let U : Up → Type 0 = λ u. IsUp (table_of call.log) ev (next (table_of call.log) ev (length call.log.history)) u in subst U same is.up

      no_answer : nat_lt (status_of m) 200 ≡ false → ⊥
      no_answer e =
          let P : Event → Type 0 = λ v. provisional (table_of call.log) v ≡ Some n in
          let none : None ≡ Some n = subst P (goes.4 ∙ cond-false _ _ _ e) up_is in
          absurd cc

      by : (b : Bool) → nat_lt (status_of m) 200 ≡ b → nat_lt (status_of m) 200 ≡ true
      by true e = e
      by false e = absurd (no_answer e)
  up_owed ev reply None l goes (Success n) same is = tt
  up_owed ev reply (Some m) l goes (Success n) same is = ((goes.5, λ not_yet. absurd (both not_yet)), tt)
    where
      up_is : IsUp (table_of call.log) ev (next (table_of call.log) ev (length call.log.history)) (Success n)
      up_is = let U : Up → Type 0 = λ u. IsUp (table_of call.log) ev (next (table_of call.log) ev (length call.log.history)) u in subst U same is.up

      both : is_succeeded (rows_of new) ≡ false → ⊥
      both not_yet =
          let succeeds = success_succeeds goes_on (table_of call.log) ev (length call.log.history) n up_is.1 in
          let h : true ≡ false = sym succeeds ∙ sym (ap (λ (t : Table). is_succeeded t.rows) (next_table ev reply l)) ∙ not_yet in
          absurd cc

  abbrev Owed_in : server.Server → Type 0
  Owed_in x = Owes x.owed

  same_owed : new.log ≡ call.log → new.server.owed ≡ call.server.owed → OwesResponses call → OwesResponses new
  same_owed l s owes = subst Owes (sym s) (still (same_succeeded l) owes)

  pub owes_step : Serves turn.now call turn.input turn.output new → OwesResponses call → OwesResponses new
  owes_step (Beside l s) owes = same_owed l (ap (λ (x : server.Server). x.owed) s) owes
  owes_step (Posted ev response reply goes is l s) owes =
      subst Owed_in (sym s) (plus (owed_by reply.up response) (more_succeeded ev reply l) owes (up_owed ev reply response l goes reply.up refl is))
  owes_step (Cancelled cancel hop marked l s) owes = subst Owed_in (sym s) (plus (server.CancelOk cancel hop ∷ []) (same_succeeded l) owes (tt, tt))
  owes_step (CancelledBoth cancel hop ev reply marked is l s) owes =
      subst Owed_in (sym s)
      (all_more (MayBeOwed new) (call.server.owed ++ server.CancelOk cancel hop ∷ []) (owed_by reply.up None)
      (plus (server.CancelOk cancel hop ∷ []) (more_succeeded ev reply l) owes (tt, tt)) (up_owed ev reply None l tt reply.up refl is))
  owes_step (Acked l s) owes = same_owed l (ap (λ (x : server.Server). x.owed) s) owes
  owes_step (Faulted why l s) owes = same_owed l (ap (λ (x : server.Server). x.owed) s) owes
  owes_step (Ticked sends out is l s) owes = same_owed l (ap (λ (x : server.Server). x.owed) s) owes
  owes_step (Repeated sends is l s) owes = subst Owed_in (sym s) (plus (again_if sends) (same_succeeded l) owes (again_owed sends))
  owes_step (Sent owed rest m is made sends out l s) owes = subst Owed_in (sym s) (rest_owed owed rest is l owes)
  owes_step (Dropped owed rest m is made sends out l s) owes = subst Owed_in (sym s) (rest_owed owed rest is l owes)
  owes_step (Again rest is out l s) owes = subst Owed_in (sym s) (rest_owed server.Again rest is l owes)
  owes_step (Okayed cancel hop rest is out l s) owes = subst Owed_in (sym s) (rest_owed (server.CancelOk cancel hop) rest is l owes)

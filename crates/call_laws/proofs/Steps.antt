-- Each step of a quiet call leaves it quiet.
use Rattle.std.proofs.Common.{◌≡◌, ◌∙◌, ◌++◌, ◌&&◌, ◌∷◌, not, ℕ, Bool, true, false, List, [], drop, length, map, Option, Some, None, ap, refl, sym, subst, slice_get, append-nil}
use Rattle.std.specs.List.{AllByRecursion}
use Rattle.fork_model.specs.Event.{Cancel}
use Rattle.fork_model.specs.ExactlyOne.{RowsStay}
use Rattle.fork_model.specs.Log.{Log, added, table_of}
use Rattle.fork_model.specs.Reply.{Up, Nothing, Provisional, Success, Final, Reply, IsUp}
use Rattle.fork_model.specs.Step.{next}
use Rattle.fork_model.specs.Table.{Row, Table, is_finished}
use Rattle.sip_text.specs.Text.{MessageText}
use Rattle.sip_uri.specs.declared.hop.Hop.{Hop}
use Rattle.sip_txn.specs.declared.event.TxEvent.{TxEvent}
use Rattle.sip_txn.specs.declared.event.TxEvent.TheVariants as event
use Rattle.sip_txn.specs.declared.event.TxOut.{TxOut}
use Rattle.sip_txn.specs.declared.other_client.OtherClientState.{OtherClientState}
use Rattle.sip_txn.specs.declared.machine.Machine.{Machine}
use Rattle.sip_txn.specs.Machine.{machine_after}
use Rattle.sip_txn.specs.OtherClient.{other_client}
use Rattle.call_model.specs.declared.cause.Cause.{Cause}
use Rattle.call_model.specs.declared.cause.Cause.TheVariants as cause
use Rattle.call_model.specs.Built.{ack_to, status_of}
use Rattle.sip_text.specs.Text.{spelling}
use Rattle.call_model.specs.Call.{Call, closed_by, found, nth_branch, rows_of}
use Rattle.call_model.specs.Client as client
use Rattle.call_model.specs.Client.{ClientTransaction, client_after, client_out}
use Rattle.call_model.specs.Due.{Action, SendRequest, SendCancel, SendAck, SendAnswer, TickServer, TickClient, TickCancel, FireTimerC, GiveUp, IsOverCancelTransaction, is_any, is_due_at}
use Rattle.call_model.specs.Failed.{Fails, FaultsBy, FaultsClient, cancel_faulted, faulted, faulted_cancel, is_fault}
use Rattle.call_model.specs.OpenedRequest.{Destination}
use Rattle.call_model.specs.Branch.{Branch, CancelTransaction}
use Rattle.call_model.specs.Closing.{Closing}
use Rattle.call_model.specs.Posting.{Posts, call_tag, gone_on, no_branch, owed_by, owes, rows_more, destinations_of}
use Rattle.call_model.specs.Pump as pump
use Rattle.call_model.specs.Pump.{Pumped, Pumps, Does, SendsAnswer}
use Rattle.call_model.specs.Server as server
use Rattle.call_model.specs.Server.{Owed, ServerTransaction, CancelOk, served_out}
use Rattle.call_model.specs.Step as step
use Rattle.call_model.specs.Step.{Input, Output, Step}
use Rattle.call_model.specs.Take as to
use Rattle.call_model.specs.Take.{MatchedTransaction, Taken, TakesAs, CancelledBy, Responds, ack_by, again_if, client_on, is_passed, is_response, branch_after, owes_cancel_ok, requested_again, response_event, served_on}
use Rattle.call_model.proofs.laws.SoundTables.{table_added}
use Rattle.call_laws.specs.Quiet.{IsCancelOk, IsLeft, IsQuiet, IsQuietly, OverCallsAreQuiet, OverCallsHaveNothingDue, QuietCallsStayQuiet, SendsCancelOk, paid}
use Rattle.call_laws.proofs.Calls.{same_due, set_same}
use Rattle.call_laws.proofs.Machines.{Unheeded, unheeded_fault, unheeded_response, cancel_stays, client_silent, client_stays, served_silent, served_stays}

no : false ≡ true → ⊥
no e = absurd cc

-- ---- what stays quiet

quiet_same : (call new : Call) → IsQuiet call → rows_of new ≡ rows_of call → new.branches ≡ call.branches → new.server.machine ≡ call.server.machine
    → AllByRecursion IsCancelOk new.server.owed → IsQuiet new
quiet_same call new q rows branches machine owed = record {
  over = record {
    finished = ap (λ (rs : List Row). is_finished rs) rows ∙ q.over.finished;
    server = subst (λ (s : ServerTransaction). server.is_over s) (sym machine) q.over.server;
    branches = λ n branch at. q.over.branches n branch (ap (λ (ls : List (Option Branch)). found (slice_get ls n)) (sym branches) ∙ at);
    idle = λ now action. same_due (paid call) (paid new) rows branches machine refl now action ∙ q.over.idle now action;
  };
  owed = owed;
}

left_same : (call new : Call) (input : Input) → IsQuiet call → new ≡ call → IsLeft call new input
left_same call new input q is = record {
  quiet = subst IsQuiet (sym is) q;
  opened = ap (λ (c : Call). c.opened) is;
  destinations = ap (λ (c : Call). c.destinations) is;
  branches = ap (λ (c : Call). c.branches) is;
  rows = ap (λ (c : Call). rows_of c) is;
  machine = ap (λ (c : Call). c.server.machine) is;
  log = λ other. ap (λ (c : Call). c.log) is;
}

-- another list of 200s is owed
left_owing : (call : Call) (input : Input) (owed : List Owed) → IsQuiet call → AllByRecursion IsCancelOk owed
    → IsLeft call (record call { server = record call.server { owed = owed } }) input
left_owing call input owed q all = record {
  quiet = quiet_same call (record call { server = record call.server { owed = owed } }) q refl refl refl all;
  opened = refl;
  destinations = refl;
  branches = refl;
  rows = refl;
  machine = refl;
  log = λ other. refl;
}

one_more : (owed : List Owed) (cancel : MessageText) (hop : Hop) → AllByRecursion IsCancelOk owed → AllByRecursion IsCancelOk (owed ++ CancelOk cancel hop ∷ [])
one_more [] cancel hop all = (tt, tt)
one_more (o ∷ os) cancel hop all = (all.0, one_more os cancel hop all.1)

-- ---- messages

served_same : (call : Call) (ev : TxEvent) (now : ℕ) → IsQuiet call → served_on call ev now ≡ call
served_same call ev now q =
    ap (λ (s : ServerTransaction). record call { server = record call.server { machine = s } }) (served_stays ev now call.server.machine q.over.server)

again_same : (call : Call) (now : ℕ) → IsQuiet call → requested_again call now ≡ call
again_same call now q =
    let out = served_out event.Request now call.server.machine in
    let none : again_if (is_response out.send) ≡ [] =
    ap (λ (o : TxOut). again_if (is_response o.send)) (served_silent event.Request now call.server.machine q.over.server) in
    ap (λ (c : Call). owes c (again_if (is_response out.send))) (served_same call event.Request now q)
    ∙ ap (λ (more : List Owed). owes call more) none
    ∙ ap (λ (os : List Owed). record call { server = record call.server { owed = os } }) (append-nil call.server.owed)

-- the CANCEL of a call whose branches have all ended moves none, and hands nothing up
finished_already : (a b c : Bool) → (a && not b && c) ≡ true → b ≡ true → ⊥
finished_already true true c e h = no e
finished_already false true c e h = no e
finished_already a false c e h = no h

nothing_up : (t u : Table) (up : Up) → is_finished t.rows ≡ true → IsUp t Cancel u up → owed_by up None ≡ []
nothing_up t u Nothing done is = refl
nothing_up t u (Provisional n) done is = refl
nothing_up t u (Success n) done is = refl
nothing_up t u (Final choice) done is = absurd (finished_already _ _ _ is.2 done)

drop_all : {A : Type 0} (xs : List A) → drop (length xs) xs ≡ []
drop_all [] = refl
drop_all (x ∷ xs) = drop_all xs

rows_kept : RowsStay → (log : Log) (reply : Reply) → is_finished (table_of log).rows ≡ true → (table_of (added log call_tag Cancel reply)).rows ≡ (table_of log).rows
rows_kept stay log reply done =
    ap (λ (t : Table). t.rows) (table_added log call_tag Cancel reply)
    ∙ stay (table_of log) (length log.history) (Cancel ∷ []) done

left_cancelled : RowsStay → (call new : Call) (m cancel : MessageText) (source hop : Hop) (closing : Closing) (reply : Reply) → IsQuiet call
    → Posts (closed_by closing (owes_cancel_ok call cancel hop)) Cancel [] None reply new → IsLeft call new (step.Take to.ServerCancel m source)
left_cancelled stay call new m cancel source hop closing reply q posts =
    subst (λ (c : Call). IsLeft call c (step.Take to.ServerCancel m source)) (sym posts.follows) left
  where
    log : Log
    log = added call.log call_tag Cancel reply

    rows : (table_of log).rows ≡ rows_of call
    rows = rows_kept stay call.log reply q.over.finished

    none : rows_more call.log log ≡ []
    none = ap (λ (rs : List Row). drop (length (rows_of call)) rs) rows ∙ drop_all (rows_of call)

    up : owed_by reply.up None ≡ []
    up = nothing_up (table_of call.log) (next (table_of call.log) Cancel (length call.log.history)) reply.up q.over.finished posts.reply_is.up

    ok : List Owed
    ok = call.server.owed ++ CancelOk cancel hop ∷ []

    after : Call
    after = owes (gone_on (closed_by closing (owes_cancel_ok call cancel hop)) [] log) (owed_by reply.up None)

    branches : after.branches ≡ call.branches
    branches = ap (λ (rs : List Row). call.branches ++ map no_branch rs) none ∙ append-nil call.branches

    owed : AllByRecursion IsCancelOk after.server.owed
    owed =
        let same : ok ++ owed_by reply.up None ≡ ok = ap (λ (os : List Owed). ok ++ os) up ∙ append-nil ok in
        subst (AllByRecursion IsCancelOk) (sym same) (one_more call.server.owed cancel hop q.owed)

    left : IsLeft call after (step.Take to.ServerCancel m source)
    left = record {
      quiet = quiet_same call after q rows branches refl owed;
      opened = refl;
      destinations = ap (λ (rs : List Row). call.destinations ++ destinations_of call.opened [] rs) none ∙ append-nil call.destinations;
      branches = branches;
      rows = rows;
      machine = refl;
      log = λ other. absurd (other tt);
    }

takes_cancel : RowsStay → (call new : Call) (m cancel : MessageText) (source hop : Hop) (taken : Taken) → IsQuiet call → CancelledBy call cancel hop taken new
    → IsQuietly to.ServerCancel taken × IsLeft call new (step.Take to.ServerCancel m source)
takes_cancel stay call new m cancel source hop to.Absorbed q by =
    let input = step.Take to.ServerCancel m source in
    (tt, subst (λ (c : Call). IsLeft call c input) (sym by.1) (left_owing call input _ q (one_more call.server.owed cancel hop q.owed)))
takes_cancel stay call new m cancel source hop (to.Posted at) q by = (tt, left_cancelled stay call new m cancel source hop _ by.1 q by.3)
takes_cancel stay call new m cancel source hop to.Full q by = absurd by

-- a response to a branch
branch_same : (branch : Branch) (now status : ℕ) (ack : List ℕ) → client.is_over branch.client → client_on branch now status ack ≡ branch
branch_same branch now status ack is =
    let stays : client_after (response_event status) now branch.client ≡ branch.client = client_stays (response_event status) (unheeded_response status) now branch.client is in
    let quiet : ack_by (client_out (response_event status) now branch.client).send ack branch.ack ≡ branch.ack =
    ap (λ (o : TxOut). ack_by o.send ack branch.ack) (client_silent (response_event status) (unheeded_response status) now branch.client is) in
    λ i. record branch { client = stays i; ack = quiet i }

no_pass : (status now : ℕ) (c : ClientTransaction) → client.is_over c → is_passed (client_out (response_event status) now c).pass ≡ true → ⊥
no_pass status now c is e =
    no (sym (ap (λ (o : TxOut). is_passed o.pass) (client_silent (response_event status) (unheeded_response status) now c is)) ∙ e)

responds : (call new : Call) (n now : ℕ) (branch : Branch) (destination : Destination) (m : MessageText) (source : Hop) (taken : Taken) → IsQuiet call → nth_branch call n ≡ Some branch
    → Responds call n branch destination now m taken new → IsQuietly (to.Client n) taken × IsLeft call new (step.Take (to.Client n) m source)
responds call new n now branch destination m source to.Absorbed q at r =
    let same = branch_same branch now (status_of m) (spelling (ack_to call.opened destination n m)) (q.over.branches n branch at).client in
    (tt, left_same call new _ q (r.1 ∙ set_same call n branch (branch_after call n branch destination now m) at same))
responds call new n now branch destination m source (to.Posted at_) q at r = absurd (no_pass (status_of m) now branch.client (q.over.branches n branch at).client r.0)
responds call new n now branch destination m source to.Full q at r = absurd (no_pass (status_of m) now branch.client (q.over.branches n branch at).client r.0)

-- a response to the CANCEL of a branch
cancelling_same : (branch : Branch) (cancelling : CancelTransaction) (ev : TxEvent) → Unheeded ev → (now : ℕ) → branch.cancelling ≡ Some cancelling → IsOverCancelTransaction branch.cancelling
    → record branch { cancelling = Some (record cancelling { client = machine_after other_client ev now cancelling.client }) } ≡ branch
cancelling_same branch cancelling ev none now is over =
    let ended : IsOverCancelTransaction (Some cancelling) = subst IsOverCancelTransaction is over in
    ap (λ (m : Machine OtherClientState). record branch { cancelling = Some (record cancelling { client = m }) }) (cancel_stays ev none now cancelling.client ended)
    ∙ ap (λ (c : Option CancelTransaction). record branch { cancelling = c }) (sym is)

takes : RowsStay → (now : ℕ) (call new : Call) (r : MatchedTransaction) (m : MessageText) (source : Hop) (taken : Taken) → IsQuiet call → TakesAs call now m source r taken new
    → IsQuietly r taken × IsLeft call new (step.Take r m source)
takes stay now call new to.Server m source to.Absorbed q t = (tt, left_same call new _ q (t ∙ again_same call now q))
takes stay now call new to.Server m source (to.Posted at) q t = absurd t
takes stay now call new to.Server m source to.Full q t = absurd t
takes stay now call new to.ServerAck m source to.Absorbed q t = (tt, left_same call new _ q (t ∙ served_same call event.Ack now q))
takes stay now call new to.ServerAck m source (to.Posted at) q t = absurd t
takes stay now call new to.ServerAck m source to.Full q t = absurd t
takes stay now call new to.ServerCancel m source taken q t = takes_cancel stay call new m t.0 source _ taken q t.2
takes stay now call new (to.Client n) m source taken q t = responds call new n now t.0 t.1 m source taken q t.2 t.4
takes stay now call new (to.CancelClient n) m source to.Absorbed q t =
    let same = cancelling_same t.0 t.1 (response_event (status_of m)) (unheeded_response (status_of m)) now t.3 (q.over.branches n t.0 t.2).cancelling in
    (tt, left_same call new _ q (t.4 ∙ set_same call n t.0 _ t.2 same))
takes stay now call new (to.CancelClient n) m source (to.Posted at) q t = absurd t
takes stay now call new (to.CancelClient n) m source to.Full q t = absurd t

-- ---- datagrams that could not be sent

faults : (call new : Call) (now n : ℕ) (o : Option Branch) → IsQuiet call → nth_branch call n ≡ o → FaultsClient call now n o new → new ≡ call
faults call new now n None q at f = f
faults call new now n (Some branch) q at f = by _ (ap (λ (o : TxOut). is_fault o.pass) (client_silent event.TransportError unheeded_fault now branch.client over)) f
  where
    over : client.is_over branch.client
    over = (q.over.branches n branch at).client

    by : (b : Bool) → b ≡ false → FaultsBy call now n branch b new → new ≡ call
    by true h f = absurd (no (sym h))
    by false h f =
        f ∙ set_same call n branch (faulted branch now) at (ap (λ (c : ClientTransaction). record branch { client = c }) (client_stays event.TransportError unheeded_fault now branch.client over))

cancel_faults : (call : Call) (now n : ℕ) (o : Option Branch) → IsQuiet call → nth_branch call n ≡ o → cancel_faulted call now n o ≡ call
cancel_faults call now n None q at = refl
cancel_faults call now n (Some branch) q at = set_same call n branch _ at (by branch.cancelling refl (q.over.branches n branch at).cancelling)
  where
    by : (c : Option CancelTransaction) → branch.cancelling ≡ c → IsOverCancelTransaction c → faulted_cancel branch now c ≡ branch
    by None is over = refl
    by (Some cancelling) is over = cancelling_same branch cancelling event.TransportError unheeded_fault now is (subst IsOverCancelTransaction (sym is) over)

fails : (call new : Call) (now : ℕ) (why : Cause) → IsQuiet call → Fails call now why new → new ≡ call
fails call new now (cause.Request n) q f = faults call new now n (nth_branch call n) q refl f
fails call new now (cause.Ack n) q f = faults call new now n (nth_branch call n) q refl f
fails call new now (cause.Cancel n) q f = f ∙ cancel_faults call now n (nth_branch call n) q refl
fails call new now cause.Answer q f = f ∙ served_same call event.TransportError now q
fails call new now cause.CancelOk q f = f

-- ---- pumps

answers : (call new : Call) (now : ℕ) (owed : List Owed) (pumped : Pumped) → IsQuiet call → AllByRecursion IsCancelOk owed → SendsAnswer call now owed pumped new
    → SendsCancelOk pumped × IsLeft call new step.Pump
answers call new now [] pumped q all s = absurd s
answers call new now (server.Trying ∷ rest) pumped q all s = absurd all.0
answers call new now (server.Passed m ∷ rest) pumped q all s = absurd all.0
answers call new now (server.Final choice ∷ rest) pumped q all s = absurd all.0
answers call new now (server.Again ∷ rest) pumped q all s = absurd all.0
answers call new now (CancelOk cancel hop ∷ rest) pumped q all s =
    (subst SendsCancelOk (sym s.0) refl, subst (λ (c : Call). IsLeft call c step.Pump) (sym s.1) (left_owing call step.Pump rest q all.1))

does : (call new : Call) (now : ℕ) (action : Action) (pumped : Pumped) → IsQuiet call → is_due_at call now action ≡ true → Does call now action pumped new
    → SendsCancelOk pumped × IsLeft call new step.Pump
does call new now SendAnswer pumped q due d = answers call new now call.server.owed pumped q q.owed d
does call new now (SendRequest n) pumped q due d = absurd (no (sym (q.over.idle now (SendRequest n)) ∙ due))
does call new now (SendCancel n) pumped q due d = absurd (no (sym (q.over.idle now (SendCancel n)) ∙ due))
does call new now (SendAck n) pumped q due d = absurd (no (sym (q.over.idle now (SendAck n)) ∙ due))
does call new now TickServer pumped q due d = absurd (no (sym (q.over.idle now TickServer) ∙ due))
does call new now (TickClient n) pumped q due d = absurd (no (sym (q.over.idle now (TickClient n)) ∙ due))
does call new now (TickCancel n) pumped q due d = absurd (no (sym (q.over.idle now (TickCancel n)) ∙ due))
does call new now (FireTimerC n) pumped q due d = absurd (no (sym (q.over.idle now (FireTimerC n)) ∙ due))
does call new now (GiveUp n) pumped q due d = absurd (no (sym (q.over.idle now (GiveUp n)) ∙ due))

pumps : (call new : Call) (now : ℕ) (pumped : Pumped) → IsQuiet call → Pumps call now pumped new → SendsCancelOk pumped × IsLeft call new step.Pump
pumps call new now pump.Idle q p = (tt, left_same call new _ q p.1)
pumps call new now (pump.Send d) q p = does call new now p.0 (pump.Send d) q p.1 p.2
pumps call new now pump.Did q p = does call new now p.0 pump.Did q p.1 p.2

-- ---- the laws

pub stay_quiet : RowsStay → QuietCallsStayQuiet
stay_quiet stay now call new (step.Take r m source) (step.Took taken) q s = takes stay now call new r m source taken q s
stay_quiet stay now call new (step.Take r m source) (step.Did pumped) q s = absurd s
stay_quiet stay now call new (step.Take r m source) step.Told q s = absurd s
stay_quiet stay now call new step.Pump (step.Took taken) q s = absurd s
stay_quiet stay now call new step.Pump (step.Did pumped) q s = pumps call new now pumped q s
stay_quiet stay now call new step.Pump step.Told q s = absurd s
stay_quiet stay now call new (step.Failed why) (step.Took taken) q s = absurd s
stay_quiet stay now call new (step.Failed why) (step.Did pumped) q s = absurd s
stay_quiet stay now call new (step.Failed why) step.Told q s = (tt, left_same call new _ q (fails call new now why q s))

none_owed : (owed : List Owed) → is_any owed ≡ false → owed ≡ []
none_owed [] e = refl
none_owed (o ∷ os) e = absurd (no (sym e))

pub over_quiet : OverCallsAreQuiet
over_quiet call over =
    let none : call.server.owed ≡ [] = none_owed call.server.owed (over.idle 0 SendAnswer) in record {
      quiet = record {
        over = record {
          finished = over.finished;
          server = over.server;
          branches = over.branches;
          idle = λ now action. same_due call (paid call) refl refl refl (sym none) now action ∙ over.idle now action;
        };
        owed = subst (AllByRecursion IsCancelOk) (sym none) tt;
      };
      owed = none;
    }

pub nothing_due : OverCallsHaveNothingDue
nothing_due call over = over.idle

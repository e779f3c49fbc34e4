-- What a step touches: the part of its own row, and, where it posts an event, the rows of that.
use Rattle.fork_call.proofs.Common.{◌≡◌, ◌∙◌, ◌⊎◌, ℕ, zero, suc, ap, refl, sym, inl, inr, true, false, Bool, List, [], ◌∷◌, length, map, Option, Some, None, slice_get, cond, Event, row_named, Reply, MessageText, ContactText, Hop, Cause}
use Rattle.fork_call.proofs.Common.{answer_of, status_of, Call, found, nth_branch, Action, Fails, FaultsBy, FaultsClient, cancel_faulted, Branch, Destination, Posts, AnswersBy, AnswersWith, Did, Does, FiresTimerC, Idle, Pumped, Pumps, Send, SendsAnswer}
use Rattle.fork_call.proofs.Common.{TicksClientBy, is_redirection, Owed, MatchedTransaction, TakesAs, row_of_cause, row_of_action, row_of_recipient}
use Rattle.std.specs.Prelude.{nat_lt}
use Rattle.fork_model.specs.Event as fork
use Rattle.fork_model.specs.Event.{FinalAnswer}
use Rattle.fork_model.specs.Sources.{offers_of}
use Rattle.call_model.specs.declared.cause.Cause.TheVariants as cause
use Rattle.call_model.specs.declared.tried_contacts.TriedContacts.{TriedContacts}
use Rattle.fork_model.specs.Log.{table_of}
use Rattle.sip_build.specs.Requests.{reason_lines}
use Rattle.call_model.specs.Call.{closed_by, set_branch, with_branch}
use Rattle.call_model.specs.Closing.{ByCancel, Closing, closing_after}
use Rattle.call_model.specs.Due as due
use Rattle.call_model.specs.Failed.{faulted, faulted_cancel}
use Rattle.call_model.specs.Pump.{sent_if, stopped, ticked, without_timer_c}
use Rattle.call_model.specs.Response.{challenges_by, contact_for, contacts_by, contacts_for, event_by, offer_of}
use Rattle.call_model.specs.Server.{Again, CancelOk, Final, Passed, Server, Trying, answer_event, served_after, served_out}
use Rattle.call_model.specs.Take as to
use Rattle.call_model.specs.Take.{CancelledBy, Responds, Taken, going_up, branch_after, branch_posted, owes_cancel_ok}

-- the log is the same, and the parts of all rows but this one
pub record IsBeside (call mid : Call) (row : Option ℕ) : Type 0 where
  pub log : mid.log ≡ call.log
  pub size : length mid.branches ≡ length call.branches
  pub branches : (k : ℕ) → (row ≡ Some k → ⊥) → nth_branch mid k ≡ nth_branch call k

-- an event was posted besides, which names no other row; where this holds, it brings no contacts
pub record IsPosted (call new : Call) (row : Option ℕ) (nothing_due : Type 0) : Type 0 where
  pub mid : Call
  pub event : Event
  pub contacts : List ContactText
  pub response : Option MessageText
  pub reply : Reply
  pub beside : IsBeside call mid row
  pub named : (k : ℕ) → (row ≡ Some k → ⊥) → row_named event ≡ Some k → ⊥
  pub plain : nothing_due → offers_of event ≡ []
  pub posts : Posts mid event contacts response reply new

abbrev pub Touches : Call → Call → Option ℕ → Type 0 → Type 0
Touches call new row nothing_due = IsBeside call new row ⊎ IsPosted call new row nothing_due

-- ---- one part

branch_beside : (branches : List (Option Branch)) (n k : ℕ) (branch : Branch) → (k ≡ n → ⊥) → found (slice_get (with_branch branches n branch) k) ≡ found (slice_get branches k)
branch_beside [] n k branch d = refl
branch_beside (x ∷ branches) zero zero branch d = absurd (d refl)
branch_beside (x ∷ branches) zero (suc k) branch d = refl
branch_beside (x ∷ branches) (suc n) zero branch d = refl
branch_beside (x ∷ branches) (suc n) (suc k) branch d = branch_beside branches n k branch (λ e. d (ap suc e))

length_beside : (branches : List (Option Branch)) (n : ℕ) (branch : Branch) → length (with_branch branches n branch) ≡ length branches
length_beside [] n branch = refl
length_beside (x ∷ branches) zero branch = refl
length_beside (x ∷ branches) (suc n) branch = ap suc (length_beside branches n branch)

pub beside_same : (call new : Call) (row : Option ℕ) → new ≡ call → IsBeside call new row
beside_same call new row e = record {
  log = ap (λ (x : Call). x.log) e;
  size = ap (λ (x : Call). length x.branches) e;
  branches = λ k d. ap (λ (x : Call). nth_branch x k) e;
}

beside_server : (call new : Call) (s : Server) (row : Option ℕ) → new ≡ record call { server = s } → IsBeside call new row
beside_server call new s row e = record {
  log = ap (λ (x : Call). x.log) e;
  size = ap (λ (x : Call). length x.branches) e;
  branches = λ k d. ap (λ (x : Call). nth_branch x k) e;
}

beside_branch : (call new : Call) (n : ℕ) (branch : Branch) → new ≡ set_branch call n branch → IsBeside call new (Some n)
beside_branch call new n branch e = record {
  log = ap (λ (x : Call). x.log) e;
  size = ap (λ (x : Call). length x.branches) e ∙ length_beside call.branches n branch;
  branches = λ k d. ap (λ (x : Call). nth_branch x k) e ∙ branch_beside call.branches n k branch (λ h. d (ap (λ (x : ℕ). Some x) (sym h)));
}

-- what closed the table is no part of a row
beside_closed : (call mid : Call) (closing : Closing) (row : Option ℕ) → IsBeside call mid row → IsBeside call (closed_by closing mid) row
beside_closed call mid closing row is = record { log = is.log; size = is.size; branches = is.branches }

-- ---- events that name their row

of_row : (n : ℕ) (event : Event) → row_named event ≡ Some n → (k : ℕ) → (Some n ≡ Some k → ⊥) → row_named event ≡ Some k → ⊥
of_row n event is k d e = d (sym is ∙ e)

-- an event of row n, whose part was changed before
posted_branch : (call new : Call) (n : ℕ) (branch : Branch) (event : Event) (reply : Reply) → row_named event ≡ Some n → offers_of event ≡ []
    → Posts (set_branch call n branch) event [] None reply new → Touches call new (Some n) (Unit {0})
posted_branch call new n branch event reply named plain posts = inr (record {
  mid = set_branch call n branch;
  event = event;
  contacts = [];
  response = None;
  reply = reply;
  beside = beside_branch call (set_branch call n branch) n branch refl;
  named = of_row n event named;
  plain = λ u. plain;
  posts = posts;
})

-- ---- actions

answers_by : (call new : Call) (now : ℕ) (rest : List Owed) (answer : MessageText) (sends : Bool) (pumped : Pumped)
    → AnswersBy call now rest answer sends pumped new → IsBeside call new None
answers_by call new now rest answer true pumped (out, e) =
    beside_server call new (record { machine = served_after (answer_event (status_of answer)) now call.server.machine; owed = rest; last = _ }) None e
answers_by call new now rest answer false pumped (out, e) =
    beside_server call new (record call.server { machine = served_after (answer_event (status_of answer)) now call.server.machine; owed = rest }) None e

answers_with : (call new : Call) (now : ℕ) (rest : List Owed) (answer : Option MessageText) (pumped : Pumped)
    → AnswersWith call now rest answer pumped new → IsBeside call new None
answers_with call new now rest None pumped h = absurd h
answers_with call new now rest (Some answer) pumped h =
    answers_by call new now rest answer (to.is_response (served_out (answer_event (status_of answer)) now call.server.machine).send) pumped h

sends_answer : (call new : Call) (now : ℕ) (owed : List Owed) (pumped : Pumped) → SendsAnswer call now owed pumped new → IsBeside call new None
sends_answer call new now [] pumped h = absurd h
sends_answer call new now (Again ∷ rest) pumped (out, e) = beside_server call new (record call.server { owed = rest }) None e
sends_answer call new now (CancelOk cancel hop ∷ rest) pumped (out, e) = beside_server call new (record call.server { owed = rest }) None e
sends_answer call new now (Trying ∷ rest) pumped h = answers_with call new now rest (answer_of call Trying) pumped h
sends_answer call new now (Passed m ∷ rest) pumped h = answers_with call new now rest (answer_of call (Passed m)) pumped h
sends_answer call new now (Final choice ∷ rest) pumped h = answers_with call new now rest (answer_of call (Final choice)) pumped h

ticks_client : (call new : Call) (now n : ℕ) (destination : Destination) (branch : Branch) (timeout : Bool) (pumped : Pumped)
    → TicksClientBy call now n destination branch timeout pumped new → Touches call new (Some n) (Unit {0})
ticks_client call new now n destination branch true pumped (out, reply, posts) = posted_branch call new n (ticked branch now) (fork.Timeout n) reply refl refl posts
ticks_client call new now n destination branch false pumped (out, e) = inl (beside_branch call new n (ticked branch now) e)

fires_timer_c : (call new : Call) (now n : ℕ) (branch : Branch) (trying : Bool) (pumped : Pumped)
    → FiresTimerC call now n branch trying pumped new → Touches call new (Some n) (Unit {0})
fires_timer_c call new now n branch true pumped (out, reply, posts) = posted_branch call new n (stopped branch now) (fork.TimerC n) reply refl refl posts
fires_timer_c call new now n branch false pumped (out, reply, posts) = posted_branch call new n (without_timer_c branch) (fork.TimerC n) reply refl refl posts

pub does_touch : (call new : Call) (now : ℕ) (action : Action) (pumped : Pumped) → Does call now action pumped new → Touches call new (row_of_action action) (Unit {0})
does_touch call new now (due.SendRequest n) pumped (destination, w, (out, e)) = inl (beside_branch call new n _ e)
does_touch call new now (due.SendCancel n) pumped (destination, branch, w, l, (out, e)) = inl (beside_branch call new n _ e)
does_touch call new now (due.SendAck n) pumped (destination, branch, w, l, (ack, a, out, e)) = inl (beside_branch call new n _ e)
does_touch call new now due.SendAnswer pumped h = inl (sends_answer call new now call.server.owed pumped h)
does_touch call new now due.TickServer pumped (out, e) = inl (beside_server call new _ None e)
does_touch call new now (due.TickClient n) pumped (destination, branch, w, l, h) = ticks_client call new now n destination branch _ pumped h
does_touch call new now (due.TickCancel n) pumped (destination, branch, w, l, (cancelling, c, out, e)) = inl (beside_branch call new n _ e)
does_touch call new now (due.FireTimerC n) pumped (branch, l, h) = fires_timer_c call new now n branch _ pumped h
does_touch call new now (due.GiveUp n) pumped (branch, l, (out, reply, posts)) = posted_branch call new n (stopped branch now) (fork.GiveUp n) reply refl refl posts

-- ---- datagrams that could not be sent

faults_by : (call new : Call) (now n : ℕ) (branch : Branch) (fault : Bool) → FaultsBy call now n branch fault new → Touches call new (Some n) (Unit {0})
faults_by call new now n branch true (reply, posts) = posted_branch call new n (faulted branch now) (fork.Fault n) reply refl refl posts
faults_by call new now n branch false e = inl (beside_branch call new n (faulted branch now) e)

faults_client : (call new : Call) (now n : ℕ) (branch : Option Branch) → FaultsClient call now n branch new → Touches call new (Some n) (Unit {0})
faults_client call new now n None e = inl (beside_same call new (Some n) e)
faults_client call new now n (Some branch) h = faults_by call new now n branch _ h

faults_cancel : (call new : Call) (now n : ℕ) (branch : Option Branch) → new ≡ cancel_faulted call now n branch → Touches call new (Some n) (Unit {0})
faults_cancel call new now n None e = inl (beside_same call new (Some n) e)
faults_cancel call new now n (Some branch) e = inl (beside_branch call new n (faulted_cancel branch now branch.cancelling) e)

pub fails_touch : (call new : Call) (now : ℕ) (why : Cause) → Fails call now why new → Touches call new (row_of_cause why) (Unit {0})
fails_touch call new now (cause.Request n) h = faults_client call new now n (nth_branch call n) h
fails_touch call new now (cause.Ack n) h = faults_client call new now n (nth_branch call n) h
fails_touch call new now (cause.Cancel n) e = faults_cancel call new now n (nth_branch call n) e
fails_touch call new now cause.Answer e = inl (beside_server call new _ None e)
fails_touch call new now cause.CancelOk e = inl (beside_same call new None e)

-- ---- messages

abbrev answer_by : (tried : TriedContacts) → (status : ℕ) → MessageText → FinalAnswer
answer_by tried status m = record { status = status; offers = map offer_of (contacts_for tried status m); challenges = challenges_by status m }

event_named : (tried : TriedContacts) (n status : ℕ) (m : MessageText) → row_named (event_by tried n status m) ≡ Some n
event_named tried n status m = by_test (nat_lt status 200)
  where
    by_test : (ring : Bool) → row_named (cond {A = Event} ring (fork.Ring n status) (fork.Answer n (answer_by tried status m))) ≡ Some n
    by_test true = refl
    by_test false = refl

bare_offers : (tried : TriedContacts) (n status : ℕ) (m : MessageText) → is_redirection status ≡ false → offers_of (event_by tried n status m) ≡ []
bare_offers tried n status m e = by_test (nat_lt status 200)
  where
    none : contacts_by status m ≡ []
    none = rw e refl

    by_test : (ring : Bool) → offers_of (cond {A = Event} ring (fork.Ring n status) (fork.Answer n (answer_by tried status m))) ≡ []
    by_test true = refl
    by_test false = ap (λ (cs : List ContactText). map offer_of (map (contact_for tried) cs)) none

cancel_touches : (call new : Call) (cancel : MessageText) (hop : Hop) (taken : Taken) (nothing_due : Type 0) → CancelledBy call cancel hop taken new → Touches call new None nothing_due
cancel_touches call new cancel hop to.Absorbed nothing_due (c, e) = inl (beside_server call new _ None e)
cancel_touches call new cancel hop (to.Posted at) nothing_due (c, reply, placed, posts) = inr (record {
  mid = closed_by (ByCancel (reason_lines cancel)) (owes_cancel_ok call cancel hop);
  event = fork.Cancel;
  contacts = [];
  response = None;
  reply = reply;
  beside = beside_closed call (owes_cancel_ok call cancel hop) _ None (beside_server call (owes_cancel_ok call cancel hop) _ None refl);
  named = λ k d e. absurd cc;
  plain = λ q. refl;
  posts = posts;
})
cancel_touches call new cancel hop to.Full nothing_due h = absurd h

response_touches : (call new : Call) (now n : ℕ) (branch : Branch) (destination : Destination) (m : MessageText) (taken : Taken)
    → Responds call n branch destination now m taken new → Touches call new (Some n) (is_redirection (status_of m) ≡ false)
response_touches call new now n branch destination m to.Absorbed (p, e) = inl (beside_branch call new n _ e)
response_touches call new now n branch destination m (to.Posted at) (p, reply, placed, first, leads, posts) = inr (record {
  mid =
      closed_by (closing_after (table_of new.log).closed (status_of m) call.closing)
      (set_branch call n (branch_posted first destination.longest (branch_after call n branch destination now m) now (status_of m) m));
  event = event_by call.opened.tried n (status_of m) m;
  contacts = contacts_for call.opened.tried (status_of m) m;
  response = going_up (status_of m) m;
  reply = reply;
  beside =
      beside_closed call (set_branch call n (branch_posted first destination.longest (branch_after call n branch destination now m) now (status_of m) m)) _ (Some n)
      (beside_branch call _ n _ refl);
  named = of_row n (event_by call.opened.tried n (status_of m) m) (event_named call.opened.tried n (status_of m) m);
  plain = bare_offers call.opened.tried n (status_of m) m;
  posts = posts;
})
response_touches call new now n branch destination m to.Full (p, f, e) = inl (beside_same call new (Some n) e)

pub takes_touch : (call new : Call) (now : ℕ) (m : MessageText) (source : Hop) (r : MatchedTransaction) (taken : Taken)
    → TakesAs call now m source r taken new → Touches call new (row_of_recipient r) (is_redirection (status_of m) ≡ false)
takes_touch call new now m source to.Server to.Absorbed e = inl (beside_server call new _ None e)
takes_touch call new now m source to.Server (to.Posted at) h = absurd h
takes_touch call new now m source to.Server to.Full h = absurd h
takes_touch call new now m source to.ServerAck to.Absorbed e = inl (beside_server call new _ None e)
takes_touch call new now m source to.ServerAck (to.Posted at) h = absurd h
takes_touch call new now m source to.ServerAck to.Full h = absurd h
takes_touch call new now m source to.ServerCancel taken (cancel, marked, by) = cancel_touches call new cancel _ taken _ by
takes_touch call new now m source (to.Client n) taken (branch, destination, l, w, responds) = response_touches call new now n branch destination m taken responds
takes_touch call new now m source (to.CancelClient n) to.Absorbed (branch, cancelling, l, c, e) = inl (beside_branch call new n _ e)
takes_touch call new now m source (to.CancelClient n) (to.Posted at) h = absurd h
takes_touch call new now m source (to.CancelClient n) to.Full h = absurd h

-- ---- a pump that did something

nothing_answered : (call new : Call) (now : ℕ) (rest : List Owed) (answer : MessageText) (sends : Bool) → AnswersBy call now rest answer sends Idle new → ⊥
nothing_answered call new now rest answer true (out, e) = absurd cc
nothing_answered call new now rest answer false (out, e) = absurd cc

nothing_with : (call new : Call) (now : ℕ) (rest : List Owed) (answer : Option MessageText) → AnswersWith call now rest answer Idle new → ⊥
nothing_with call new now rest None h = h
nothing_with call new now rest (Some answer) h = nothing_answered call new now rest answer (to.is_response (served_out (answer_event (status_of answer)) now call.server.machine).send) h

nothing_sent : (call new : Call) (now : ℕ) (owed : List Owed) → SendsAnswer call now owed Idle new → ⊥
nothing_sent call new now [] h = h
nothing_sent call new now (Again ∷ rest) (out, e) = absurd cc
nothing_sent call new now (CancelOk cancel hop ∷ rest) (out, e) = absurd cc
nothing_sent call new now (Trying ∷ rest) h = nothing_with call new now rest (answer_of call Trying) h
nothing_sent call new now (Passed m ∷ rest) h = nothing_with call new now rest (answer_of call (Passed m)) h
nothing_sent call new now (Final choice ∷ rest) h = nothing_with call new now rest (answer_of call (Final choice)) h

not_idle : (b : Bool) (d : _) → Idle ≡ sent_if b d → ⊥
not_idle true d e = absurd cc
not_idle false d e = absurd cc

no_tick : (call new : Call) (now n : ℕ) (destination : Destination) (branch : Branch) (timeout : Bool) → TicksClientBy call now n destination branch timeout Idle new → ⊥
no_tick call new now n destination branch true (out, reply, h) = absurd cc
no_tick call new now n destination branch false (out, e) = not_idle _ _ out

no_fire : (call new : Call) (now n : ℕ) (branch : Branch) (trying : Bool) → FiresTimerC call now n branch trying Idle new → ⊥
no_fire call new now n branch true (out, reply, h) = absurd cc
no_fire call new now n branch false (out, reply, h) = absurd cc

-- an action is never nothing
never_idle : (call new : Call) (now : ℕ) (action : Action) → Does call now action Idle new → ⊥
never_idle call new now (due.SendRequest n) (destination, w, (out, e)) = absurd cc
never_idle call new now (due.SendCancel n) (destination, branch, w, l, (out, e)) = absurd cc
never_idle call new now (due.SendAck n) (destination, branch, w, l, (ack, a, out, e)) = absurd cc
never_idle call new now due.SendAnswer h = nothing_sent call new now call.server.owed h
never_idle call new now due.TickServer (out, e) = not_idle _ _ out
never_idle call new now (due.TickClient n) (destination, branch, w, l, h) = no_tick call new now n destination branch _ h
never_idle call new now (due.TickCancel n) (destination, branch, w, l, (cancelling, c, out, e)) = not_idle _ _ out
never_idle call new now (due.FireTimerC n) (branch, l, h) = no_fire call new now n branch _ h
never_idle call new now (due.GiveUp n) (branch, l, (out, reply, h)) = absurd cc

pub does_pump : (call new : Call) (now : ℕ) (action : Action) (pumped : Pumped) → due.is_due_at call now action ≡ true → Does call now action pumped new → Pumps call now pumped new
does_pump call new now action (Send d) is h = (action, is, h)
does_pump call new now action Did is h = (action, is, h)
does_pump call new now action Idle is h = absurd (never_idle call new now action h)

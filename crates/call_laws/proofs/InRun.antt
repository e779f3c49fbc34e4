-- What holds of each call of a run, of that very run.
use Rattle.std.proofs.Common.{◌≡◌, ◌∙◌, ◌⊎◌, ◌++◌, ◌∷◌, ℕ, zero, suc, Bool, true, false, List, [], length, Option, Some, None, IfSome, ap, refl, sym, subst, inl, inr, nat_lt, slice_get, append_assoc}
use Rattle.std.proofs.lemmas.Bool.{and_parts, cond-false, cond-true}
use Rattle.std.specs.List.{AllByRecursion}
use Rattle.fork_model.specs.Choice.{Choice}
use Rattle.fork_model.specs.Event.{Event, TimerC}
use Rattle.fork_model.specs.Log.{Log, Posted, added, event_posted, events_of, table_of}
use Rattle.fork_model.specs.Reply as reply
use Rattle.fork_model.specs.Reply.{Reply, Up}
use Rattle.fork_model.specs.Step.{next}
use Rattle.fork_model.specs.Steps.{BranchesGoOn, RowsKeepTheirNumbers}
use Rattle.fork_model.specs.Table.{Row, State, Table, is_cancelled, is_ended, is_row}
use Rattle.fork_model.specs.Table as table
use Rattle.sip_text.specs.Text.{MessageText, spelling}
use Rattle.call_model.specs.Again.{LastAnswerIsKept, last_after}
use Rattle.call_model.specs.Branch.{Branch}
use Rattle.call_model.specs.Built.{ack_to, cancel_to, status_of}
use Rattle.call_model.specs.Call.{Call, nth_branch, owes_cancel, row_passes, rows_of}
use Rattle.call_model.specs.ClosedBy.{ClosesTable, ClosingStaysOrComes, KnowsClosing, StepsKnowClosing}
use Rattle.call_model.specs.Closing.{Closing, has_closed, reasons_if}
use Rattle.call_model.specs.Due.{timer_c_at}
use Rattle.call_model.specs.OpenedRequest.{OpenedRequest, Destination, is_invite}
use Rattle.call_model.specs.Parts.{FiresTimer, FiringsEndOrCancel, GoesOn, PartsGoOn, SendsAsCancel, SendsCancelTo, StepsKeepParts, cancel_kept}
use Rattle.call_model.specs.Posting.{call_tag, owed_by, passed}
use Rattle.call_model.specs.Pump.{cancel_bytes, reasons_of}
use Rattle.call_model.specs.Server as server
use Rattle.call_model.specs.Server.{Owed}
use Rattle.call_model.specs.Step as step
use Rattle.call_model.specs.Step.{Step, Turn}
use Rattle.call_model.specs.Take.{again_if}
use Rattle.call_model.proofs.laws.Fitting.{kind_is}
use Rattle.call_model.proofs.laws.Logs.{table_added}
use Rattle.call_laws.specs.Came.{CamePosted}
use Rattle.call_laws.specs.EachDatagram.{IsAckAfter, SendsAsAck, last_sent, turns_of}
use Rattle.call_laws.specs.Stages.{Stage, end_of}
use Rattle.call_laws.specs.WhyCancelled.{GivesNone, SaysWhy, TableClosed, TimerCFired, TimerFired, WasClosedBy, WasSentBefore}
use Rattle.call_laws.proofs.Acks.{pays_ack}
use Rattle.call_laws.proofs.Branches.{OwesAckNow, ack_in, state}
use Rattle.call_laws.proofs.Cancelled.{MayCancel, cancelled_by}
use Rattle.call_laws.proofs.Origins.{Later, one_of, this_one}
use Rattle.call_laws.proofs.Running.{Holds}
use Rattle.call_laws.proofs.Serving.{GoesUp, Serves, Beside, Posted as PostedEvent, Cancelled, CancelledBoth, Acked, Faulted, Ticked, Repeated, Sent, Dropped, Again, Okayed, serves}

-- ---- lists

end_added : (call : Call) (stages : List Stage) (stage : Stage) → end_of call (stages ++ stage ∷ []) ≡ stage.call
end_added call [] stage = refl
end_added call (x ∷ stages) stage = end_added x.call stages stage

pub turns_added : (stages : List Stage) (stage : Stage) → turns_of (stages ++ stage ∷ []) ≡ turns_of stages ++ stage.turn ∷ []
turns_added [] stage = refl
turns_added (x ∷ stages) stage = ap (λ (ts : List Turn). x.turn ∷ ts) (turns_added stages stage)

last_added : (last : List ℕ) (turns : List Turn) (turn : Turn) → last_sent last (turns ++ turn ∷ []) ≡ last_after turn.output (last_sent last turns)
last_added last [] turn = refl
last_added last (x ∷ turns) turn = last_added (last_after x.output last) turns turn

more_there : {X : Type 0} (xs ys : List X) (k : ℕ) (x : X) → slice_get xs k ≡ Some x → slice_get (xs ++ ys) k ≡ Some x
more_there [] ys k x e = absurd cc
more_there (y ∷ xs) ys zero x e = e
more_there (y ∷ xs) ys (suc k) x e = more_there xs ys k x e

there_or_last : {X : Type 0} (xs : List X) (x y : X) (k : ℕ) → slice_get (xs ++ x ∷ []) k ≡ Some y → (slice_get xs k ≡ Some y) ⊎ (x ≡ y)
there_or_last [] x y zero e = inr (let same : x ≡ y = cc in same)
there_or_last [] x y (suc k) e = absurd cc
there_or_last (z ∷ xs) x y zero e = inl e
there_or_last (z ∷ xs) x y (suc k) e = there_or_last xs x y k e

last_there : {X : Type 0} (xs : List X) (x : X) → slice_get (xs ++ x ∷ []) (length xs) ≡ Some x
last_there [] x = refl
last_there (y ∷ xs) x = last_there xs x

events_added : (history : List Posted) (p : Posted) → events_of (history ++ p ∷ []) ≡ events_of history ++ event_posted p ∷ []
events_added [] p = refl
events_added (q ∷ history) p = ap (λ (es : List Event). event_posted q ∷ es) (events_added history p)

some_same : {A : Type 0} (a b : A) → Some a ≡ Some b → a ≡ b
some_same a b e = cc

none_some : {A : Type 0} (x : A) → None ≡ Some x → ⊥
none_some x e = absurd cc

not_both : (b : Bool) → b ≡ false → b ≡ true → ⊥
not_both true e h = absurd cc
not_both false e h = absurd cc

all_more : (P : Owed → Type 0) (xs ys : List Owed) → AllByRecursion P xs → AllByRecursion P ys → AllByRecursion P (xs ++ ys)
all_more P [] ys h k = k
all_more P (x ∷ xs) ys h k = (h.0, all_more P xs ys h.1 k)

-- ---- the log of a call behind a step

abbrev Grows : Call → Call → Type 0
Grows call new = (new.log ≡ call.log) ⊎ ((ev : Event) × (r : Reply) × (new.log ≡ added call.log call_tag ev r))

grows : {now : ℕ} {call : Call} {input : step.Input} {output : step.Output} {new : Call} → Serves now call input output new → Grows call new
grows (Beside l s) = inl l
grows (PostedEvent ev response r goes is l s) = inr (ev, r, l)
grows (Cancelled cancel hop marks l s) = inl l
grows (CancelledBoth cancel hop ev r marks is l s) = inr (ev, r, l)
grows (Acked l s) = inl l
grows (Faulted why l s) = inl l
grows (Ticked sends out is l s) = inl l
grows (Repeated sends is l s) = inl l
grows (Sent owed rest m is made sends out l s) = inl l
grows (Dropped owed rest m is made sends out l s) = inl l
grows (Again rest is out l s) = inl l
grows (Okayed cancel hop rest is out l s) = inl l

abbrev next_table : Call → Event → Table
next_table call ev = next (table_of call.log) ev (length call.log.history)

table_is : (call new : Call) (ev : Event) (r : Reply) → new.log ≡ added call.log call_tag ev r → table_of new.log ≡ next_table call ev
table_is call new ev r l = ap table_of l ∙ table_added call.log call_tag ev r

-- ---- timer C

fired_later : (call new : Call) (n : ℕ) → Grows call new → TimerCFired call n → TimerCFired new n
fired_later call new n (inl l) (at, is) = (at, ap (λ (x : Log). slice_get (events_of x.history) at) l ∙ is)
fired_later call new n (inr (ev, r, l)) (at, is) = (
  at,
  ap (λ (x : Log). slice_get (events_of x.history) at) l
      ∙ ap (λ (es : List Event). slice_get es at) (events_added call.log.history (record { tag = call_tag; event = ev }))
      ∙ more_there (events_of call.log.history) (ev ∷ []) at (TimerC n) is,
)

events_length : (history : List Posted) → length (events_of history) ≡ length history
events_length [] = refl
events_length (p ∷ history) = ap suc (events_length history)

fires_now : (call new : Call) (n : ℕ) → FiresTimer call new n → TimerCFired new n
fires_now call new n (r, l) = (
  length (events_of call.log.history),
  ap (λ (x : Log). slice_get (events_of x.history) (length (events_of call.log.history))) l
      ∙ ap (λ (es : List Event). slice_get es (length (events_of call.log.history))) (events_added call.log.history (record { tag = call_tag; event = TimerC n }))
      ∙ last_there (events_of call.log.history) (TimerC n),
)

-- one that has fired did so before, or now
fired_or : (call new : Call) (n : ℕ) → Grows call new → TimerCFired new n → TimerCFired call n ⊎ FiresTimer call new n
fired_or call new n (inl l) (at, is) = inl (at, sym (ap (λ (x : Log). slice_get (events_of x.history) at) l) ∙ is)
fired_or call new n (inr (ev, r, l)) (at, is) =
    by (there_or_last (events_of call.log.history) ev (TimerC n) at
    (sym (ap (λ (es : List Event). slice_get es at) (events_added call.log.history (record { tag = call_tag; event = ev })))
    ∙ sym (ap (λ (x : Log). slice_get (events_of x.history) at) l) ∙ is))
  where
    by : (slice_get (events_of call.log.history) at ≡ Some (TimerC n)) ⊎ (ev ≡ TimerC n) → TimerCFired call n ⊎ FiresTimer call new n
    by (inl before) = inl (at, before)
    by (inr same) = inr (r, l ∙ ap (λ (x : Event). added call.log call_tag x r) same)

-- its branch has ended, or has no timer C any more
abbrev EndsOrGone : Call → ℕ → Type 0
EndsOrGone call n = (row_passes is_ended call n ≡ true) ⊎ ((branch : Branch) × (nth_branch call n ≡ Some branch) × (branch.timer_c_at ≡ None))

row_of : (test : State → Bool) (o : Option Row) → is_row test o ≡ true → (row : Row) × (o ≡ Some row) × (test row.state ≡ true)
row_of test None e = absurd cc
row_of test (Some row) e = (row, refl, e)

ended_later : BranchesGoOn → (call new : Call) (n : ℕ) → Grows call new → row_passes is_ended call n ≡ true → row_passes is_ended new n ≡ true
ended_later goes_on call new n (inl l) e = ap (λ (x : Log). is_row is_ended (slice_get (table_of x).rows n)) l ∙ e
ended_later goes_on call new n (inr (ev, r, l)) e =
    let row = row_of is_ended (slice_get (rows_of call) n) e in
    let later = goes_on (table_of call.log) ev (length call.log.history) n row.0 row.1 in
    ap (λ (t : Table). is_row is_ended (slice_get t.rows n)) (table_is call new ev r l)
    ∙ ap (is_row is_ended) later.1 ∙ ap is_ended (later.2.ended row.2) ∙ row.2

not_ended : (o : Option Row) → is_row is_cancelled o ≡ true → is_row is_ended o ≡ true → ⊥
not_ended None c e = absurd cc
not_ended (Some row) c e = by row.state c e
  where
    by : (s : State) → is_cancelled s ≡ true → is_ended s ≡ true → ⊥
    by table.Idle c e = absurd cc
    by table.Trying c e = absurd cc
    by (table.Rung cancelled) c e = absurd cc
    by (table.Ended end) c e = absurd cc

-- ---- what is owed

-- each response that is owed came to a branch
abbrev pub HasCome : List Turn → Owed → Type 0
HasCome turns server.Trying = Unit {0}
HasCome turns (server.Passed m) = (n : ℕ) × (at : ℕ) × CamePosted turns n at m × (nat_lt (status_of m) 300 ≡ true)
HasCome turns (server.Final choice) = Unit {0}
HasCome turns server.Again = Unit {0}
HasCome turns (server.CancelOk cancel to) = Unit {0}

module _ (turns : List Turn) (turn : Turn) where
  abbrev Come : List Owed → Type 0
  Come os = AllByRecursion (HasCome (Later turns turn)) os

  come_later : (o : Owed) → HasCome turns o → HasCome (Later turns turn) o
  come_later server.Trying h = tt
  come_later (server.Passed m) (n, at, (t, is, posted), small) = (n, at, (t, one_of turns turn t is, posted), small)
  come_later (server.Final choice) h = tt
  come_later server.Again h = tt
  come_later (server.CancelOk cancel to) h = tt

  all_later : (os : List Owed) → AllByRecursion (HasCome turns) os → Come os
  all_later [] h = tt
  all_later (o ∷ os) h = (come_later o h.0, all_later os h.1)

  passed_comes : (opened : OpenedRequest) (ev : Event) (at : ℕ) (response : Option MessageText) → IfSome response (GoesUp opened turn.input turn.output ev at) → Come (passed response)
  passed_comes opened ev at None h = tt
  passed_comes opened ev at (Some m) (n, source, input, output, said, small) = ((n, at, (turn, this_one turns turn, (source, input, output)), small), tt)

  up_comes : (opened : OpenedRequest) (ev : Event) (at : ℕ) (up : Up) (response : Option MessageText) → IfSome response (GoesUp opened turn.input turn.output ev at) → Come (owed_by up response)
  up_comes opened ev at reply.Nothing response h = tt
  up_comes opened ev at (reply.Provisional n) response h = passed_comes opened ev at response h
  up_comes opened ev at (reply.Success n) response h = passed_comes opened ev at response h
  up_comes opened ev at (reply.Final choice) response h = (tt, tt)

  again_comes : (b : Bool) → Come (again_if b)
  again_comes true = (tt, tt)
  again_comes false = tt

  come_step : (call new : Call) → Serves turn.now call turn.input turn.output new → AllByRecursion (HasCome turns) call.server.owed → Come new.server.owed
  come_step call new s h = by s
    where
      still : Come call.server.owed
      still = all_later call.server.owed h

      now_owed : (os : List Owed) → new.server.owed ≡ os → Come os → Come new.server.owed
      now_owed os e k = let P : List Owed → Type 0 = λ x. Come x in subst P (sym e) k

      less : (owed : Owed) (rest : List Owed) → call.server.owed ≡ owed ∷ rest → Come rest
      less owed rest is = let P : List Owed → Type 0 = λ x. Come x in (subst P is still).1

      plus : (more : List Owed) → Come more → Come (call.server.owed ++ more)
      plus more k = all_more (HasCome (Later turns turn)) call.server.owed more still k

      owed_in : server.Server → List Owed
      owed_in x = x.owed

      by : Serves turn.now call turn.input turn.output new → Come new.server.owed
      by (Beside l s) = now_owed call.server.owed (ap owed_in s) still
      by (PostedEvent ev response r goes is l s) = now_owed _ (ap owed_in s) (plus (owed_by r.up response) (up_comes call.opened ev r.at r.up response goes))
      by (Cancelled cancel hop marks l s) = now_owed _ (ap owed_in s) (plus (server.CancelOk cancel hop ∷ []) (tt, tt))
      by (CancelledBoth cancel hop ev r marks is l s) =
          now_owed _ (ap owed_in s)
          (all_more (HasCome (Later turns turn)) (call.server.owed ++ server.CancelOk cancel hop ∷ []) (owed_by r.up None) (plus (server.CancelOk cancel hop ∷ []) (tt, tt))
          (up_comes call.opened ev r.at r.up None tt))
      by (Acked l s) = now_owed call.server.owed (ap owed_in s) still
      by (Faulted why l s) = now_owed call.server.owed (ap owed_in s) still
      by (Ticked sends out is l s) = now_owed call.server.owed (ap owed_in s) still
      by (Repeated sends is l s) = now_owed _ (ap owed_in s) (plus (again_if sends) (again_comes sends))
      by (Sent owed rest m is made sends out l s) = now_owed rest (ap owed_in s) (less owed rest is)
      by (Dropped owed rest m is made sends out l s) = now_owed rest (ap owed_in s) (less owed rest is)
      by (Again rest is out l s) = now_owed rest (ap owed_in s) (less server.Again rest is)
      by (Okayed cancel hop rest is out l s) = now_owed rest (ap owed_in s) (less (server.CancelOk cancel hop) rest is)

-- ---- the whole

-- why branch n may be cancelled
abbrev IsWhy : Call → Call → ℕ → Type 0
IsWhy begin call n = (is_invite begin.opened ≡ true) × (((table_of call.log).closed ≡ true) ⊎ TimerCFired call n)

pub record InRun (begin : Call) (stages : List Stage) (call : Call) : Type 0 where
  pub ends : end_of begin stages ≡ call
  pub handed : List Choice
  pub holds : Holds (turns_of stages) handed call
  pub opened : call.opened ≡ begin.opened
  pub targets : (n : ℕ) (destination : Destination) → slice_get begin.destinations n ≡ Some destination → slice_get call.destinations n ≡ Some destination
  pub knows : KnowsClosing call
  pub closed : (table_of call.log).closed ≡ true → WasClosedBy begin stages call.closing
  pub fired : is_invite begin.opened ≡ true → (n : ℕ) (branch : Branch) → nth_branch call n ≡ Some branch → branch.timer_c_at ≡ None → TimerCFired call n
  pub firings : (n : ℕ) → TimerCFired call n → EndsOrGone call n
  pub cancelled : (n : ℕ) → row_passes is_cancelled call n ≡ true → IsWhy begin call n
  pub cancels : (n : ℕ) (branch : Branch) (bytes : List ℕ) → nth_branch call n ≡ Some branch → cancel_kept branch ≡ Some bytes
      → (destination : Destination) × (slice_get call.destinations n ≡ Some destination) × WasSentBefore begin stages n destination bytes
  pub acks : (n : ℕ) (branch : Branch) (bytes : List ℕ) → nth_branch call n ≡ Some branch → branch.ack ≡ Some bytes
      → (destination : Destination) × (slice_get call.destinations n ≡ Some destination) × IsAckAfter begin stages n destination bytes
  pub last : call.server.last ≡ last_sent [] (turns_of stages)
  pub come : AllByRecursion (HasCome (turns_of stages)) call.server.owed

-- the Reason lines of a CANCEL that is owed say why
pub says_why : (begin call : Call) (stages : List Stage) (n : ℕ) (branch : Branch) → InRun begin stages call → nth_branch call n ≡ Some branch → owes_cancel call n ≡ true
    → SaysWhy begin stages n (reasons_of call n)
says_why begin call stages n branch is there owed = by_switch call.opened.reasons refl
  where
    row : row_passes is_cancelled call n ≡ true
    row = (and_parts (row_passes is_cancelled call n) _ owed).0

    why : IsWhy begin call n
    why = is.cancelled n row

    at_end : TimerCFired call n → TimerCFired (end_of begin stages) n
    at_end f = let F : Call → Type 0 = λ c. TimerCFired c n in subst F (sym is.ends) f

    from_end : TimerCFired (end_of begin stages) n → TimerCFired call n
    from_end f = let F : Call → Type 0 = λ c. TimerCFired c n in subst F is.ends f

    reasons_are : call.opened.reasons ≡ true → (at : Option ℕ) → branch.timer_c_at ≡ at → reasons_of call n ≡ reasons_if at call.closing
    reasons_are gives at e = cond-true _ _ _ gives ∙ ap (λ (o : Option Branch). reasons_if (timer_c_at o) call.closing) there ∙ ap (λ (x : Option ℕ). reasons_if x call.closing) e

    by_timer : call.opened.reasons ≡ true → (at : Option ℕ) → branch.timer_c_at ≡ at → SaysWhy begin stages n (reasons_of call n)
    by_timer gives None e = TimerFired (at_end (is.fired why.0 n branch there e)) (reasons_are gives None e)
    by_timer gives (Some at) e = by_closing why.1
      where
        gone : EndsOrGone call n → ⊥
        gone (inl ended) = not_ended (slice_get (rows_of call) n) row ended
        gone (inr (b, also, none)) =
            let same : b ≡ branch = some_same b branch (sym also ∙ there) in
            none_some at (sym none ∙ ap (λ (x : Branch). x.timer_c_at) same ∙ e)

        by_closing : ((table_of call.log).closed ≡ true) ⊎ TimerCFired call n → SaysWhy begin stages n (reasons_of call n)
        by_closing (inl closed) = TableClosed call.closing (λ f. gone (is.firings n (from_end f))) (is.closed closed) (reasons_are gives (Some at) e)
        by_closing (inr f) = absurd (gone (is.firings n f))

    by_switch : (b : Bool) → call.opened.reasons ≡ b → SaysWhy begin stages n (reasons_of call n)
    by_switch false e = GivesNone (ap (λ (o : OpenedRequest). o.reasons) (sym is.opened) ∙ e) (cond-false _ _ _ e)
    by_switch true e = by_timer e branch.timer_c_at refl

module _ (know : StepsKnowClosing) (comes : ClosingStaysOrComes) (last_kept : LastAnswerIsKept) (keep : StepsKeepParts) (firing : FiringsEndOrCancel) (rows_grow : RowsKeepTheirNumbers) (goes_on : BranchesGoOn)
    (begin call : Call) (stages : List Stage) (stage : Stage) (is : InRun begin stages call) (goes : Step stage.turn.now call stage.turn.input stage.call stage.turn.output) where
  abbrev new : Call
  new = stage.call

  abbrev After : List Stage
  After = stages ++ stage ∷ []

  parts : PartsGoOn (FiresTimer call new) stage.turn.output call new
  parts = keep stage.turn call new goes

  grown : Grows call new
  grown = grows (serves stage.turn.now call stage.turn.input new stage.turn.output goes)

  knows_now : KnowsClosing new
  knows_now = know stage.turn call new is.holds.sound is.knows goes

  opened_now : new.opened ≡ begin.opened
  opened_now = (state stage.turn.now call stage.turn.input new stage.turn.output goes).opened ∙ is.opened

  -- ---- what closed the table

  longer : (closing : Closing) → WasClosedBy begin stages closing → WasClosedBy begin After closing
  longer closing w = record {
    before = w.before;
    stage = w.stage;
    later = w.later ++ stage ∷ [];
    one_of = ap (λ (ss : List Stage). ss ++ stage ∷ []) w.one_of ∙ append_assoc w.before (w.stage ∷ w.later) (stage ∷ []);
    open_before = w.open_before;
    closed_after = w.closed_after;
    by = w.by;
  }

  closed_now : (table_of new.log).closed ≡ true → WasClosedBy begin After new.closing
  closed_now closed = by (comes stage.turn call new is.holds.sound is.knows goes)
    where
      W : Closing → Type 0
      W c = WasClosedBy begin After c

      by : (new.closing ≡ call.closing) ⊎ ClosesTable stage.turn call new → WasClosedBy begin After new.closing
      by (inl same) =
          let before : (table_of call.log).closed ≡ true = sym is.knows ∙ ap has_closed (sym same) ∙ knows_now ∙ closed in
          subst W (sym same) (longer call.closing (is.closed before))
      by (inr closes) = record {
        before = stages;
        stage = stage;
        later = [];
        one_of = refl;
        open_before = ap (λ (c : Call). (table_of c.log).closed) is.ends ∙ closes.open_before;
        closed_after = closes.closed_after;
        by = closes.by;
      }

  -- ---- the parts of branches

  destination_of : (n : ℕ) (branch : Branch) → nth_branch call n ≡ Some branch → (destination : Destination) × (slice_get call.destinations n ≡ Some destination)
  destination_of n branch there = let b = is.holds.stands.built.branches n branch there in (b.0, b.1)

  destination_there : (n : ℕ) (destination : Destination) → slice_get call.destinations n ≡ Some destination → slice_get new.destinations n ≡ Some destination
  destination_there n destination at =
      let p = state stage.turn.now call stage.turn.input new stage.turn.output goes in
      ap (λ (ws : List Destination). slice_get ws n) p.destinations ∙ more_there call.destinations p.more n destination at

  fired_now : is_invite begin.opened ≡ true → (n : ℕ) (branch : Branch) → nth_branch new n ≡ Some branch → branch.timer_c_at ≡ None → TimerCFired new n
  fired_now invite n branch there none = by (nth_branch call n) refl
    where
      either : (old : Branch) → nth_branch call n ≡ Some old → (old.timer_c_at ≡ None) ⊎ FiresTimer call new n → TimerCFired new n
      either old before (inl gone) = fired_later call new n grown (is.fired invite n old before gone)
      either old before (inr fires) = fires_now call new n fires

      by : (o : Option Branch) → nth_branch call n ≡ o → TimerCFired new n
      by None before = absurd ((parts.made n branch before there).timer_c (ap is_invite is.opened ∙ invite) none)
      by (Some old) before =
          let w = destination_of n old before in
          let p = parts.kept n w.0 old w.1 before in
          let same : p.0 ≡ branch = some_same p.0 branch (sym p.1 ∙ there) in
          either old before (p.2.fires_now (ap (λ (x : Branch). x.timer_c_at) same ∙ none))

  firings_now : (n : ℕ) → TimerCFired new n → EndsOrGone new n
  firings_now n fired = by (fired_or call new n grown fired)
    where
      later : EndsOrGone call n → EndsOrGone new n
      later (inl ended) = inl (ended_later goes_on call new n grown ended)
      later (inr (branch, there, none)) =
          let w = destination_of n branch there in
          let p = parts.kept n w.0 branch w.1 there in
          inr (p.0, p.1, p.2.fired none)

      by : TimerCFired call n ⊎ FiresTimer call new n → EndsOrGone new n
      by (inl before) = later (is.firings n before)
      by (inr fires) = firing stage.turn call new n is.holds.sound goes fires

  -- ---- why a branch is cancelled

  closed_later : Grows call new → (table_of call.log).closed ≡ true → (table_of new.log).closed ≡ true
  closed_later (inl l) e = ap (λ (x : Log). (table_of x).closed) l ∙ e
  closed_later (inr (ev, r, l)) e = ap (λ (t : Table). t.closed) (table_is call new ev r l) ∙ (rows_grow (table_of call.log) ev (length call.log.history)).closed e

  why_later : (n : ℕ) → IsWhy begin call n → IsWhy begin new n
  why_later n (invite, inl closed) = (invite, inl (closed_later grown closed))
  why_later n (invite, inr fired) = (invite, inr (fired_later call new n grown fired))

  cancelled_now : (n : ℕ) → row_passes is_cancelled new n ≡ true → IsWhy begin new n
  cancelled_now n cancelled = by grown
    where
      invited : table.is_invite (table_of call.log).kind ≡ true → is_invite begin.opened ≡ true
      invited e = ap is_invite (sym is.opened) ∙ sym (kind_is call is.holds.sound) ∙ e

      may : (ev : Event) (r : Reply) → new.log ≡ added call.log call_tag ev r → MayCancel (table_of call.log) ev (next_table call ev) n → IsWhy begin new n
      may ev r l (inl before) = why_later n (is.cancelled n before)
      may ev r l (inr (invite, inl closed)) = (invited invite, inl (ap (λ (t : Table). t.closed) (table_is call new ev r l) ∙ closed))
      may ev r l (inr (invite, inr same)) = (invited invite, inr (fires_now call new n (r, l ∙ ap (λ (x : Event). added call.log call_tag x r) same)))

      by : Grows call new → IsWhy begin new n
      by (inl l) = why_later n (is.cancelled n (sym (ap (λ (x : Log). is_row is_cancelled (slice_get (table_of x).rows n)) l) ∙ cancelled))
      by (inr (ev, r, l)) =
          may ev r l (cancelled_by (table_of call.log) ev (length call.log.history) n
          (sym (ap (λ (t : Table). is_row is_cancelled (slice_get t.rows n)) (table_is call new ev r l)) ∙ cancelled))

  -- ---- the CANCELs that are kept

  cancels_now : (n : ℕ) (branch : Branch) (bytes : List ℕ) → nth_branch new n ≡ Some branch → cancel_kept branch ≡ Some bytes
      → (destination : Destination) × (slice_get new.destinations n ≡ Some destination) × WasSentBefore begin After n destination bytes
  cancels_now n branch bytes there kept = by (nth_branch call n) refl
    where
      Found : Type 0
      Found = (destination : Destination) × (slice_get new.destinations n ≡ Some destination) × WasSentBefore begin After n destination bytes

      still : (old : Branch) → nth_branch call n ≡ Some old → cancel_kept old ≡ Some bytes → Found
      still old before same =
          let c = is.cancels n old bytes before same in (
            c.0,
            destination_there n c.0 c.1,
            record {
              before = c.2.before;
              stage = c.2.stage;
              later = c.2.later ++ stage ∷ [];
              one_of = ap (λ (ss : List Stage). ss ++ stage ∷ []) c.2.one_of ∙ append_assoc c.2.before (c.2.stage ∷ c.2.later) (stage ∷ []);
              sends = c.2.sends;
              made = c.2.made;
            },
          )

      either : (old : Branch) (destination : Destination) → nth_branch call n ≡ Some old → slice_get call.destinations n ≡ Some destination
          → (cancel_kept branch ≡ cancel_kept old) ⊎ SendsCancelTo stage.turn.output call n destination old branch → Found
      either old destination before at (inl same) = still old before (sym same ∙ kept)
      either old destination before at (inr sends) =
          let bytes_are : bytes ≡ cancel_bytes call n destination = some_same bytes (cancel_bytes call n destination) (sym kept ∙ sends.kept) in (
            destination,
            destination_there n destination at,
            record {
              before = stages;
              stage = stage;
              later = [];
              one_of = refl;
              sends = let S : List ℕ → Type 0 = λ x. SendsAsCancel stage.turn.output n x in subst S (sym bytes_are) sends.sends;
              made = record {
                reasons = reasons_of call n;
                why = says_why begin call stages n old is before sends.owed;
                made = bytes_are ∙ ap (λ (o : OpenedRequest). spelling (cancel_to o destination n (reasons_of call n))) is.opened;
              };
            },
          )

      by : (o : Option Branch) → nth_branch call n ≡ o → Found
      by None before = absurd (none_some bytes (sym (parts.made n branch before there).cancel ∙ kept))
      by (Some old) before =
          let w = destination_of n old before in
          let p = parts.kept n w.0 old w.1 before in
          let same : p.0 ≡ branch = some_same p.0 branch (sym p.1 ∙ there) in
          let G : Branch → Type 0 = λ x. GoesOn (FiresTimer call new) stage.turn.output call n w.0 old x in
          either old w.0 before w.1 (subst G same p.2).cancel

  -- ---- the ACKs that are owed

  -- where one is still owed to the branch, none is sent
  no_ack_now : (n : ℕ) (branch : Branch) (bytes : List ℕ) → nth_branch new n ≡ Some branch → branch.ack ≡ Some bytes → SendsAsAck stage.turn.output n → ⊥
  no_ack_now n branch bytes there owed (to, sent, out) =
      let S : step.Output → Type 0 = λ o. Step stage.turn.now call stage.turn.input new o in
      let paid = pays_ack stage.turn.now call stage.turn.input new n _ refl (subst S out goes) in
      none_some bytes (sym (paid.3 branch there) ∙ owed)

  all_stages : (P : Stage → Type 0) (xs : List Stage) (x : Stage) → AllByRecursion P xs → P x → AllByRecursion P (xs ++ x ∷ [])
  all_stages P [] x h k = (k, tt)
  all_stages P (y ∷ xs) x h k = (h.0, all_stages P xs x h.1 k)

  acks_now : (n : ℕ) (branch : Branch) (bytes : List ℕ) → nth_branch new n ≡ Some branch → branch.ack ≡ Some bytes
      → (destination : Destination) × (slice_get new.destinations n ≡ Some destination) × IsAckAfter begin After n destination bytes
  acks_now n branch bytes there owed = by (((state stage.turn.now call stage.turn.input new stage.turn.output goes).each n branch there).ack bytes owed)
    where
      Found : Type 0
      Found = (destination : Destination) × (slice_get new.destinations n ≡ Some destination) × IsAckAfter begin After n destination bytes

      old_part : (o : Option Branch) → nth_branch call n ≡ o → ack_in o ≡ Some bytes → (old : Branch) × (nth_branch call n ≡ Some old) × (old.ack ≡ Some bytes)
      old_part None at e = absurd cc
      old_part (Some old) at e = (old, at, e)

      still : (old : Branch) × (nth_branch call n ≡ Some old) × (old.ack ≡ Some bytes) → Found
      still (old, at, e) =
          let a = is.acks n old bytes at e in (
            a.0,
            destination_there n a.0 a.1,
            record {
              before = a.2.before;
              stage = a.2.stage;
              later = a.2.later ++ stage ∷ [];
              one_of = ap (λ (ss : List Stage). ss ++ stage ∷ []) a.2.one_of ∙ append_assoc a.2.before (a.2.stage ∷ a.2.later) (stage ∷ []);
              failure = a.2.failure;
              came = a.2.came;
              is_failure = a.2.is_failure;
              none_since = all_stages (λ (x : Stage). SendsAsAck x.turn.output n → ⊥) a.2.later stage a.2.none_since (no_ack_now n branch bytes there owed);
              made = a.2.made;
            },
          )

      by : (ack_in (nth_branch call n) ≡ Some bytes) ⊎ OwesAckNow stage.turn.now call stage.turn.input new n bytes → Found
      by (inl before) = still (old_part (nth_branch call n) refl before)
      by (inr (m, destination, (source, input, failure), at, made)) = (
        destination,
        destination_there n destination at,
        record {
          before = stages;
          stage = stage;
          later = [];
          one_of = refl;
          failure = m;
          came = (source, input);
          is_failure = failure;
          none_since = tt;
          made = made ∙ ap (λ (o : OpenedRequest). spelling (ack_to o destination n m)) is.opened;
        },
      )

  -- ---- so it holds after the step

  pub after_step : (handed : List Choice) → Holds (turns_of stages ++ stage.turn ∷ []) handed new → InRun begin After new
  after_step handed holds = record {
    ends = end_added begin stages stage;
    handed = handed;
    holds = let H : List Turn → Type 0 = λ ts. Holds ts handed new in subst H (sym (turns_added stages stage)) holds;
    opened = opened_now;
    targets = λ n destination at. destination_there n destination (is.targets n destination at);
    knows = knows_now;
    closed = closed_now;
    fired = fired_now;
    firings = firings_now;
    cancelled = cancelled_now;
    cancels = cancels_now;
    acks = acks_now;
    last = last_kept stage.turn call new goes ∙ ap (λ (x : List ℕ). last_after stage.turn.output x) is.last
        ∙ sym (ap (last_sent []) (turns_added stages stage) ∙ last_added [] (turns_of stages) stage.turn);
    come = let C : List Turn → Type 0 = λ ts. AllByRecursion (HasCome ts) new.server.owed in
        subst C (sym (turns_added stages stage)) (come_step (turns_of stages) stage.turn call new (serves stage.turn.now call stage.turn.input new stage.turn.output goes) is.come);
  }

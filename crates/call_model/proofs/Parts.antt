-- What each step leaves of the part of a branch: its CANCEL, once that was sent, and timer C.
use Rattle.call_model.proofs.Common.{◌≡◌, ◌∙◌, ◌⊎◌, ℕ, zero, suc, ap, refl, sym, subst, inl, inr, true, false, Bool, List, [], ◌∷◌, Option, Some, None, slice_get, cond, nat_lt, and_parts, Event, Reply, MessageText, ContactText, Hop, Cause, answer_of, status_of}
use Rattle.call_model.proofs.Common.{Call, found, nth_branch, row_passes, set_branch, with_branch, Action, is_due_at, Fails, FaultsBy, FaultsClient, cancel_faulted, faulted_cancel, Destination, CancelTransaction, Branch, Posts, Pumped, Send, Did, Does, Pumps}
use Rattle.call_model.proofs.Common.{SendsAnswer, AnswersBy, AnswersWith, TicksClientBy, FiresTimerC, Owed, Passed, Final, Again, CancelOk, CancelledBy, Responds, Taken, TakesAs, timer_c_again, kind_of, branch_start, Kind, table_of, ◌&&◌}
use Rattle.std.specs.Option.{option_map}
use Rattle.std.specs.Prelude.{is_none}
use Rattle.fork_model.specs.Table as table
use Rattle.call_model.specs.declared.cause.Cause.TheVariants as cause
use Rattle.call_model.specs.Branch.{timer_c, timer_c_from}
use Rattle.call_model.specs.Call.{closed_by, lacks_cancel}
use Rattle.call_model.specs.Closing.{closing_after}
use Rattle.call_model.specs.Due as due
use Rattle.call_model.specs.Longest.{ShorterTimesStay, UsualTimesStart, UsualTimesStartAgain}
use Rattle.call_model.specs.OpenedRequest as opened
use Rattle.call_model.specs.Parts.{FiresTimer, GoesOn, IsNew, PartsGoOn, StepsKeepParts, cancel_kept, cancel_sent}
use Rattle.call_model.specs.Pump.{Idle, cancel_started, without_timer_c}
use Rattle.call_model.specs.Server.{Trying}
use Rattle.call_model.specs.Step as step
use Rattle.call_model.specs.Take as to
use Rattle.call_model.proofs.KeptBuilt.{at_or, branch_more, here_with}

-- ---- a part

none_some : {A : Type 0} (x : A) → Some x ≡ None → ⊥
none_some x e = absurd cc

some_same : {A : Type 0} (a b : A) → Some a ≡ Some b → a ≡ b
some_same a b e = cc

module _ (fires : ℕ → Type 0) (output : step.Output) where
  same_part : (call : Call) (n : ℕ) (destination : Destination) (branch later : Branch) → cancel_kept later ≡ cancel_kept branch → later.timer_c_at ≡ branch.timer_c_at → GoesOn fires output call n destination branch later
  same_part call n destination branch later c t = record { cancel = inl c; fired = λ e. t ∙ e; fires_now = λ e. inl (sym t ∙ e); shorter = λ h. inl t }

  -- ---- all parts

  -- a call with the same parts
  unchanged : (call new : Call) → new.branches ≡ call.branches → PartsGoOn fires output call new
  unchanged call new e = record {
    kept = λ n destination branch goes there.
        (branch, ap (λ (bs : List (Option Branch)). found (slice_get bs n)) e ∙ there, same_part call n destination branch branch refl refl);
    made = λ n branch none there.
        absurd (none_some branch (sym there ∙ ap (λ (bs : List (Option Branch)). found (slice_get bs n)) e ∙ none));
  }

  kept : (call new x : Call) → new ≡ x → x.branches ≡ call.branches → PartsGoOn fires output call new
  kept call new x e b = unchanged call new (ap (λ (c : Call). c.branches) e ∙ b)

  as_parts : (call new x : Call) → new ≡ x → PartsGoOn fires output call x → PartsGoOn fires output call new
  as_parts call new x e parts = let P : Call → Type 0 = λ c. PartsGoOn fires output call c in subst P (sym e) parts

  set_part : (call : Call) (n : ℕ) (branch l : Branch) → nth_branch call n ≡ Some branch
      → ((destination : Destination) → slice_get call.destinations n ≡ Some destination → GoesOn fires output call n destination branch l) → PartsGoOn fires output call (set_branch call n l)
  set_part call n branch l there on = record {
    kept = λ m destination b goes at. by m destination b goes at (at_or call.branches n m l);
    made = λ m b none at. absurd (never m b none at (at_or call.branches n m l));
  }
    where
      by : (m : ℕ) (destination : Destination) (b : Branch) → slice_get call.destinations m ≡ Some destination → nth_branch call m ≡ Some b
          → (m ≡ n) ⊎ (found (slice_get (with_branch call.branches n l) m) ≡ found (slice_get call.branches m))
          → (later : Branch) × (nth_branch (set_branch call n l) m ≡ Some later) × GoesOn fires output call m destination b later
      by m destination b goes at (inl e) =
          let same : b ≡ branch = some_same b branch (sym at ∙ ap (nth_branch call) e ∙ there) in
          let P : Branch → Type 0 = λ x. GoesOn fires output call n destination x l in
          let Q : ℕ → Type 0 = λ k. GoesOn fires output call k destination b l in (
            l,
            ap (nth_branch (set_branch call n l)) e ∙ here_with call.branches n branch l there,
            subst Q (sym e) (subst P (sym same) (on destination (ap (slice_get call.destinations) (sym e) ∙ goes))),
          )
      by m destination b goes at (inr e) = (b, e ∙ at, same_part call m destination b b refl refl)

      never : (m : ℕ) (b : Branch) → nth_branch call m ≡ None → nth_branch (set_branch call n l) m ≡ Some b
          → (m ≡ n) ⊎ (found (slice_get (with_branch call.branches n l) m) ≡ found (slice_get call.branches m)) → ⊥
      never m b none at (inl e) = none_some branch (sym there ∙ ap (nth_branch call) (sym e) ∙ none)
      never m b none at (inr e) = none_some b (sym at ∙ e ∙ none)

  same_set : (call : Call) (n : ℕ) (branch l : Branch) → nth_branch call n ≡ Some branch → cancel_kept l ≡ cancel_kept branch → l.timer_c_at ≡ branch.timer_c_at → PartsGoOn fires output call (set_branch call n l)
  same_set call n branch l there c t = set_part call n branch l there (λ destination goes. same_part call n destination branch l c t)

  -- a branch is sent its request once
  new_part : (call : Call) (n : ℕ) (l : Branch) → is_none (nth_branch call n) ≡ true → IsNew call l → PartsGoOn fires output call (set_branch call n l)
  new_part call n l none is = record {
    kept = λ m destination b goes at. by m destination b goes at (at_or call.branches n m l);
    made = λ m b before at. made m b before at (at_or call.branches n m l);
  }
    where
      nothing : (o : Option Branch) (b : Branch) → is_none o ≡ true → o ≡ Some b → ⊥
      nothing None b e h = absurd cc
      nothing (Some y) b e h = absurd cc

      by : (m : ℕ) (destination : Destination) (b : Branch) → slice_get call.destinations m ≡ Some destination → nth_branch call m ≡ Some b
          → (m ≡ n) ⊎ (found (slice_get (with_branch call.branches n l) m) ≡ found (slice_get call.branches m))
          → (later : Branch) × (nth_branch (set_branch call n l) m ≡ Some later) × GoesOn fires output call m destination b later
      by m destination b goes at (inl e) = absurd (nothing (nth_branch call n) b none (ap (nth_branch call) (sym e) ∙ at))
      by m destination b goes at (inr e) = (b, e ∙ at, same_part call m destination b b refl refl)

      -- the part that is set is there only where there was room for it
      set_there : (branches : List (Option Branch)) (k : ℕ) (b : Branch) → found (slice_get (with_branch branches k l) k) ≡ Some b → b ≡ l
      set_there [] k b e = absurd cc
      set_there (x ∷ branches) zero b e = some_same b l (sym e)
      set_there (x ∷ branches) (suc k) b e = set_there branches k b e

      made : (m : ℕ) (b : Branch) → nth_branch call m ≡ None → nth_branch (set_branch call n l) m ≡ Some b
          → (m ≡ n) ⊎ (found (slice_get (with_branch call.branches n l) m) ≡ found (slice_get call.branches m)) → IsNew call b
      made m b before at (inl e) =
          let same : b ≡ l = set_there call.branches n b (ap (nth_branch (set_branch call n l)) (sym e) ∙ at) in
          let P : Branch → Type 0 = λ x. IsNew call x in
          subst P (sym same) is
      made m b before at (inr e) = absurd (none_some b (sym at ∙ e ∙ before))

  posts : (call mid new : Call) (event : Event) (contacts : List ContactText) (response : Option MessageText) (reply : Reply)
      → PartsGoOn fires output call mid → Posts mid event contacts response reply new → PartsGoOn fires output call new
  posts call mid new event contacts response reply parts it = record {
    kept = λ n destination branch goes there.
        let p = parts.kept n destination branch goes there in
        (p.0, same n ∙ p.1, p.2);
    made = λ n branch none there. parts.made n branch none (sym (same n) ∙ there);
  }
    where
      same : (n : ℕ) → nth_branch new n ≡ nth_branch mid n
      same n = ap (λ (c : Call). nth_branch c n) it.follows ∙ branch_more mid.branches _ n

  posts_same : (call mid new : Call) (event : Event) (contacts : List ContactText) (response : Option MessageText) (reply : Reply)
      → Posts mid event contacts response reply new → mid.branches ≡ call.branches → PartsGoOn fires output call new
  posts_same call mid new event contacts response reply it b = posts call mid new event contacts response reply (unchanged call mid b) it

-- ---- a step

-- a request that is sent now
started : (call : Call) (now : ℕ) (destination : Destination) (sent : List ℕ) → IsNew call (branch_start (kind_of call.opened) now destination sent)
started call now destination sent = record { cancel = refl; timer_c = λ invite none. by (opened.is_invite call.opened) invite none }
  where
    by : (b : Bool) → b ≡ true → timer_c_from (cond {A = Kind} b table.Invite table.Other) now destination.longest ≡ None → ⊥
    by true e h = absurd cc
    by false e h = absurd cc

-- no CANCEL is kept where none was sent
none_kept : (o : Option Branch) (branch : Branch) → lacks_cancel o ≡ true → o ≡ Some branch → cancel_kept branch ≡ None
none_kept o branch lacks there =
    let P : Option Branch → Type 0 = λ x. lacks_cancel x ≡ true in
    by branch.cancelling (subst P there lacks)
  where
    by : (c : Option CancelTransaction) → is_none c ≡ true → option_map cancel_sent c ≡ None
    by None e = refl
    by (Some k) e = absurd cc

-- the transaction of the CANCEL goes on
cancel_on : (c : Option CancelTransaction) (k : CancelTransaction) → c ≡ Some k → Some k.sent ≡ option_map cancel_sent c
cancel_on c k is = ap (λ (x : Option CancelTransaction). option_map cancel_sent x) (sym is)

-- no provisional response sets a shorter timer C again, and none sets one that has fired
not_again : (now status longest : ℕ) (at : Option ℕ) → nat_lt longest timer_c ≡ true → timer_c_again now status longest at ≡ at
not_again now status longest None e = refl
not_again now status longest (Some at) e = ap (λ (b : Bool). cond b (Some at) (timer_c_again now status timer_c (Some at))) e

still_fired : (now status longest : ℕ) (at : Option ℕ) → at ≡ None → timer_c_again now status longest at ≡ None
still_fired now status longest None e = refl
still_fired now status longest (Some at) e = absurd cc

cond_some : (b c : Bool) (x y z : ℕ) → cond {A = Option ℕ} b (Some x) (cond {A = Option ℕ} c (Some y) (Some z)) ≡ None → ⊥
cond_some true c x y z e = absurd cc
cond_some false true x y z e = absurd cc
cond_some false false x y z e = absurd cc

was_fired : (now status longest : ℕ) (at : Option ℕ) → timer_c_again now status longest at ≡ None → at ≡ None
was_fired now status longest None e = refl
was_fired now status longest (Some at) e = absurd (cond_some (nat_lt longest timer_c) (nat_lt 100 status && nat_lt status 200) at _ at e)

module _ (now : ℕ) (call new : Call) (output : step.Output) where
  abbrev Fires : ℕ → Type 0
  Fires n = FiresTimer call new n

  abbrev Goes : Type 0
  Goes = PartsGoOn Fires output call new

  keeps : (x : Call) → new ≡ x → x.branches ≡ call.branches → Goes
  keeps x e b = kept Fires output call new x e b

  sets : (n : ℕ) (branch l : Branch) → nth_branch call n ≡ Some branch → cancel_kept l ≡ cancel_kept branch → l.timer_c_at ≡ branch.timer_c_at → new ≡ set_branch call n l → Goes
  sets n branch l there c t e = as_parts Fires output call new (set_branch call n l) e (same_set Fires output call n branch l there c t)

  sets_posted : (n : ℕ) (branch l : Branch) → nth_branch call n ≡ Some branch → cancel_kept l ≡ cancel_kept branch → l.timer_c_at ≡ branch.timer_c_at
      → (event : Event) (contacts : List ContactText) (response : Option MessageText) (reply : Reply) → Posts (set_branch call n l) event contacts response reply new → Goes
  sets_posted n branch l there c t event contacts response reply it =
      posts Fires output call (set_branch call n l) new event contacts response reply (same_set Fires output call n branch l there c t) it

  -- ---- an action of the pump

  answered : (rest : List Owed) (m : MessageText) (b : Bool) (p : Pumped) → AnswersBy call now rest m b p new → Goes
  answered rest m true p (out, e) = keeps _ e refl
  answered rest m false p (out, e) = keeps _ e refl

  answered_with : (rest : List Owed) (o : Option MessageText) (p : Pumped) → AnswersWith call now rest o p new → Goes
  answered_with rest None p h = absurd h
  answered_with rest (Some m) p h = answered rest m _ p h

  paid : (owed : List Owed) (p : Pumped) → SendsAnswer call now owed p new → Goes
  paid [] p h = absurd h
  paid (Again ∷ rest) p (out, e) = keeps _ e refl
  paid (CancelOk cancel hop ∷ rest) p (out, e) = keeps _ e refl
  paid (Trying ∷ rest) p h = answered_with rest (answer_of call Trying) p h
  paid (Passed m ∷ rest) p h = answered_with rest (answer_of call (Passed m)) p h
  paid (Final choice ∷ rest) p h = answered_with rest (answer_of call (Final choice)) p h

  ticks : (n : ℕ) (destination : Destination) (branch : Branch) (b : Bool) (p : Pumped) → nth_branch call n ≡ Some branch → TicksClientBy call now n destination branch b p new → Goes
  ticks n destination branch true p there (out, reply, it) = sets_posted n branch _ there refl refl _ _ _ reply it
  ticks n destination branch false p there (out, e) = sets n branch _ there refl refl e

  fired : (n : ℕ) (branch : Branch) (b : Bool) (p : Pumped) → nth_branch call n ≡ Some branch → FiresTimerC call now n branch b p new → Goes
  fired n branch true p there (out, reply, it) = sets_posted n branch _ there refl refl _ _ _ reply it
  fired n branch false p there (out, reply, it) =
      let l = without_timer_c branch in
      posts Fires output call (set_branch call n l) new _ _ _ reply
      (set_part Fires output call n branch l there (λ w at. record {
        cancel = inl refl;
        fired = λ e. refl;
        fires_now = λ e. inr (reply, ap (λ (c : Call). c.log) it.follows);
        shorter = λ h. inr refl;
      })) it

  done : (action : Action) (p : Pumped) → output ≡ step.Did p → is_due_at call now action ≡ true → Does call now action p new → Goes
  done (due.SendRequest n) p puts is (destination, goes, (out, e)) =
      as_parts Fires output call new _ e (new_part Fires output call n _ (and_parts (row_passes table.is_trying call n) _ is).1 (started call now destination _))
  done (due.SendCancel n) p puts is (destination, branch, goes, there, (out, e)) =
      let later = record branch { cancelling = Some (cancel_started call now n destination) } in
      as_parts Fires output call new _ e (set_part Fires output call n branch later there (λ w at.
      let same : w ≡ destination = some_same w destination (sym at ∙ goes) in
      let P : Destination → Type 0 = λ x. GoesOn Fires output call n x branch later in
      subst P (sym same) (record {
        cancel = inr (record { owed = is; first = none_kept (nth_branch call n) branch (and_parts (row_passes table.is_cancelled call n) _ is).1 there; sends = (destination.hop, puts ∙ ap step.Did out); kept = refl });
        fired = λ f. f;
        fires_now = λ f. inl f;
        shorter = λ h. inl refl;
      })))
  done (due.SendAck n) p puts is (destination, branch, goes, there, (ack, owed, out, e)) = sets n branch _ there refl refl e
  done due.SendAnswer p puts is h = paid call.server.owed p h
  done due.TickServer p puts is (out, e) = keeps _ e refl
  done (due.TickClient n) p puts is (destination, branch, goes, there, h) = ticks n destination branch _ p there h
  done (due.TickCancel n) p puts is (destination, branch, goes, there, (cancelling, has, out, e)) =
      sets n branch _ there (cancel_on branch.cancelling cancelling has) refl e
  done (due.FireTimerC n) p puts is (branch, there, h) = fired n branch _ p there h
  done (due.GiveUp n) p puts is (branch, there, (out, reply, it)) = sets_posted n branch _ there refl refl _ _ _ reply it

  pumped : (p : Pumped) → output ≡ step.Did p → Pumps call now p new → Goes
  pumped Idle puts (idle, e) = keeps call e refl
  pumped (Send d) puts (action, is, h) = done action (Send d) puts is h
  pumped Did puts (action, is, h) = done action Did puts is h

  -- ---- a message

  responded : (n : ℕ) (branch : Branch) (destination : Destination) (m : MessageText) (t : Taken) → nth_branch call n ≡ Some branch → slice_get call.destinations n ≡ Some destination
      → Responds call n branch destination now m t new → Goes
  responded n branch destination m to.Absorbed there goes (p, e) = sets n branch _ there refl refl e
  responded n branch destination m (to.Posted at) there goes (p, reply, placed, first, leads, it) =
      posts Fires output call _ new _ _ _ reply (closes (set_part Fires output call n branch later there on)) it
    where
      later : Branch
      later = to.branch_posted first destination.longest (to.branch_after call n branch destination now m) now (status_of m) m

      on : (w : Destination) → slice_get call.destinations n ≡ Some w → GoesOn Fires output call n w branch later
      on w at =
          let same : w ≡ destination = some_same w destination (sym at ∙ goes) in
          record {
            cancel = inl refl;
            fired = λ f. still_fired now (status_of m) destination.longest branch.timer_c_at f;
            fires_now = λ f. inl (was_fired now (status_of m) destination.longest branch.timer_c_at f);
            shorter = λ h. inl (not_again now (status_of m) destination.longest branch.timer_c_at (ap (λ (x : Destination). nat_lt x.longest timer_c) (sym same) ∙ h));
          }

      closes : PartsGoOn Fires output call (set_branch call n later) → PartsGoOn Fires output call (closed_by (closing_after (table_of new.log).closed (status_of m) call.closing) (set_branch call n later))
      closes parts = record { kept = λ k w b at is. parts.kept k w b at is; made = λ k b none is. parts.made k b none is }
  responded n branch destination m to.Full there goes (p, f, e) = keeps call e refl

  cancelled : (cancel : MessageText) (hop : Hop) (t : Taken) → CancelledBy call cancel hop t new → Goes
  cancelled cancel hop to.Absorbed (c, e) = keeps _ e refl
  cancelled cancel hop (to.Posted at) (c, reply, placed, it) = posts_same Fires output call _ new _ _ _ reply it refl
  cancelled cancel hop to.Full h = absurd h

  took : (m : MessageText) (source : Hop) (r : to.MatchedTransaction) (t : Taken) → TakesAs call now m source r t new → Goes
  took m source to.Server to.Absorbed e = keeps _ e refl
  took m source to.Server (to.Posted at) h = absurd h
  took m source to.Server to.Full h = absurd h
  took m source to.ServerAck to.Absorbed e = keeps _ e refl
  took m source to.ServerAck (to.Posted at) h = absurd h
  took m source to.ServerAck to.Full h = absurd h
  took m source to.ServerCancel t (cancel, marked, by) = cancelled cancel _ t by
  took m source (to.Client n) t (branch, destination, there, goes, h) = responded n branch destination m t there goes h
  took m source (to.CancelClient n) to.Absorbed (branch, cancelling, there, is, e) =
      sets n branch _ there (cancel_on branch.cancelling cancelling is) refl e
  took m source (to.CancelClient n) (to.Posted at) h = absurd h
  took m source (to.CancelClient n) to.Full h = absurd h

  -- ---- a datagram that could not be sent

  faults : (n : ℕ) (branch : Branch) (b : Bool) → nth_branch call n ≡ Some branch → FaultsBy call now n branch b new → Goes
  faults n branch true there (reply, it) = sets_posted n branch _ there refl refl _ _ _ reply it
  faults n branch false there e = sets n branch _ there refl refl e

  faults_client : (n : ℕ) (l : Option Branch) → nth_branch call n ≡ l → FaultsClient call now n l new → Goes
  faults_client n None there e = keeps call e refl
  faults_client n (Some branch) there h = faults n branch _ there h

  faults_cancel : (n : ℕ) (l : Option Branch) → nth_branch call n ≡ l → new ≡ cancel_faulted call now n l → Goes
  faults_cancel n None there e = keeps call e refl
  faults_cancel n (Some branch) there e = sets n branch _ there (same_cancel branch.cancelling refl) (same_timer branch.cancelling) e
    where
      same_cancel : (c : Option CancelTransaction) → branch.cancelling ≡ c → cancel_kept (faulted_cancel branch now c) ≡ cancel_kept branch
      same_cancel None is = refl
      same_cancel (Some cancelling) is = cancel_on branch.cancelling cancelling is

      same_timer : (c : Option CancelTransaction) → (faulted_cancel branch now c).timer_c_at ≡ branch.timer_c_at
      same_timer None = refl
      same_timer (Some cancelling) = refl

  failed : (c : Cause) → Fails call now c new → Goes
  failed (cause.Request n) h = faults_client n (nth_branch call n) refl h
  failed (cause.Ack n) h = faults_client n (nth_branch call n) refl h
  failed (cause.Cancel n) e = faults_cancel n (nth_branch call n) refl e
  failed cause.Answer e = keeps _ e refl
  failed cause.CancelOk e = keeps call e refl

-- ---- the whole

pub stepped : (now : ℕ) (call : Call) (input : step.Input) (new : Call) (output : step.Output) → step.Step now call input new output → PartsGoOn (FiresTimer call new) output call new
stepped now call (step.Take r m source) new (step.Took t) h = took now call new (step.Took t) m source r t h
stepped now call (step.Take r m source) new (step.Did p) h = absurd h
stepped now call (step.Take r m source) new step.Told h = absurd h
stepped now call step.Pump new (step.Took t) h = absurd h
stepped now call step.Pump new (step.Did p) h = pumped now call new (step.Did p) p refl h
stepped now call step.Pump new step.Told h = absurd h
stepped now call (step.Failed c) new (step.Took t) h = absurd h
stepped now call (step.Failed c) new (step.Did p) h = absurd h
stepped now call (step.Failed c) new step.Told h = failed now call new step.Told c h

pub steps_keep_parts : StepsKeepParts
steps_keep_parts turn call new h = stepped turn.now call turn.input new turn.output h

pub shorter_stay : ShorterTimesStay
shorter_stay turn call new n destination branch goes short there h =
    let p = (stepped turn.now call turn.input new turn.output h).kept n destination branch goes there in
    (p.0, p.1, p.2.shorter short)

-- ---- as long as timer C

pub usual_start : UsualTimesStart
usual_start table.Invite now = refl
usual_start table.Other now = refl

pub usual_start_again : UsualTimesStartAgain
usual_start_again now status None = refl
usual_start_again now status (Some at) = refl

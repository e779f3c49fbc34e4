use Rattle.fork_call.proofs.Common.{◌≡◌, ◌∙◌, ℕ, suc, ◌+◌, ◌<◌, ◌≤◌, inl, inr, refl, subst, sym, arith, true, false, Bool, Option, Some, None, List, [], ◌∷◌, ◌++◌, length, length-append, le-leb, leb-false, ◌&&◌, not, is_cancelled, is_due}
use Rattle.fork_call.proofs.Common.{Datagram, Call, nth_branch, runs_timer_c, Action, SendRequest, SendCancel, SendAck, SendAnswer, TickServer, TickClient, TickCancel, FireTimerC, GiveUp, IsIdle, IsLeastDue, cancel_at, client_at, give_up_at}
use Rattle.fork_call.proofs.Common.{is_due_at, timer_c_at, Pumps, Send, served_due, Carrying, Sent, Lost, Silent, Carries, CarriesAll, Sends, SendsOne, IsCutOff, IsRunOut, IsSoFar}
use Rattle.std.proofs.lemmas.Bool.{leb-true}
use Rattle.call_model.specs.Call.{row_passes}
use Rattle.fork_call.specs.Carry.{Hands, HandsAll, sent_in, lost_in, most_steps, IsCarriedOut}
use Rattle.call_laws.specs.Sending as sending

carries_more : (now : ℕ) (call mid new : Call) (steps : List Carrying) (step : Carrying) → CarriesAll now call steps mid → Carries now mid step new → CarriesAll now call (steps ++ step ∷ []) new
carries_more now call mid new [] step run last =
    let P : Call → Type 0 = λ x. Carries now x step new in
    (new, subst P run last, refl)
carries_more now call mid new (s ∷ steps) step run last = (run.0, run.1, carries_more now run.0 mid new steps step run.2 last)

hands_more : {P : Type 0} (sends : Sends P) (count : P → ℕ) (port mid new : P) (steps : List Carrying) (step : Carrying) → HandsAll sends count port steps mid → Hands sends count mid step new
    → HandsAll sends count port (steps ++ step ∷ []) new
hands_more sends count port mid new [] step run last = (new, subst (λ x. Hands sends count x step new) run last, refl)
hands_more sends count port mid new (s ∷ steps) step run last = (run.0, run.1, hands_more sends count run.0 mid new steps step run.2 last)

sent_more : (steps : List Carrying) (step : Carrying) → sent_in (steps ++ step ∷ []) ≡ sent_in steps + sent_in (step ∷ [])
sent_more [] step = let e : sent_in (step ∷ []) ≡ 0 + sent_in (step ∷ []) = omega arith in e
sent_more (Sent d ∷ steps) step = let e : sent_in (steps ++ step ∷ []) ≡ sent_in steps + sent_in (step ∷ []) = sent_more steps step in let r : suc (sent_in (steps ++ step ∷ [])) ≡ suc (sent_in steps) + sent_in (step ∷ []) = omega (arith, e) in r
sent_more (Lost d ∷ steps) step = sent_more steps step
sent_more (Silent ∷ steps) step = sent_more steps step

lost_more : (steps : List Carrying) (step : Carrying) → lost_in (steps ++ step ∷ []) ≡ lost_in steps + lost_in (step ∷ [])
lost_more [] step = let e : lost_in (step ∷ []) ≡ 0 + lost_in (step ∷ []) = omega arith in e
lost_more (Sent d ∷ steps) step = lost_more steps step
lost_more (Lost d ∷ steps) step = let e : lost_in (steps ++ step ∷ []) ≡ lost_in steps + lost_in (step ∷ []) = lost_more steps step in let r : suc (lost_in (steps ++ step ∷ [])) ≡ suc (lost_in steps) + lost_in (step ∷ []) = omega (arith, e) in r
lost_more (Silent ∷ steps) step = lost_more steps step

module _ {P : Type 0} (sends : Sends P) (count : P → ℕ) (now : ℕ) (call : Call) (port : P) where
  abbrev SoFar : Call → P → ℕ → ℕ → ℕ → Type 0
  SoFar new new_port made sent failed = IsSoFar sends count now call port new new_port made sent failed

  -- one more step
  so_far_more : (mid new : Call) (mid_port new_port : P) (made sent failed s f : ℕ) (step : Carrying) → SoFar mid mid_port made sent failed
      → Carries now mid step new → Hands sends count mid_port step new_port
      → s ≡ sent + sent_in (step ∷ []) → f ≡ failed + lost_in (step ∷ []) → SoFar new new_port (made + 1) s f
  so_far_more mid new mid_port new_port made sent failed s f step far last hands es ef = record {
    steps = far.steps ++ step ∷ [];
    run = carries_more now call mid new far.steps step far.run last;
    handed = hands_more sends count port mid_port new_port far.steps step far.handed hands;
    made_is = let e : length (far.steps ++ step ∷ []) ≡ length far.steps + 1 = omega (arith, length-append {A = Carrying}) in omega (arith, e, far.made_is);
    sent_are = let e = sent_more far.steps step in omega (arith, e, es, far.sent_are);
    failed_are = let e = lost_more far.steps step in omega (arith, e, ef, far.failed_are);
  }

  pub so_far_sent : (mid new : Call) (mid_port new_port : P) (made sent failed : ℕ) (d : Datagram) → SoFar mid mid_port made sent failed
      → Carries now mid (Sent d) new → SendsOne sends count mid_port d false new_port → SoFar new new_port (made + 1) (sent + 1) failed
  so_far_sent mid new mid_port new_port made sent failed d far last hands =
      so_far_more mid new mid_port new_port made sent failed (sent + 1) failed (Sent d) far last hands (omega arith) (omega arith)

  pub so_far_lost : (mid new : Call) (mid_port new_port : P) (made sent failed : ℕ) (d : Datagram) → SoFar mid mid_port made sent failed
      → Carries now mid (Lost d) new → SendsOne sends count mid_port d true new_port → SoFar new new_port (made + 1) sent (failed + 1)
  so_far_lost mid new mid_port new_port made sent failed d far last hands =
      so_far_more mid new mid_port new_port made sent failed sent (failed + 1) (Lost d) far last hands (omega arith) (omega arith)

  pub so_far_silent : (mid new : Call) (mid_port : P) (made sent failed : ℕ) → SoFar mid mid_port made sent failed
      → Carries now mid Silent new → SoFar new mid_port (made + 1) sent failed
  so_far_silent mid new mid_port made sent failed far last =
      so_far_more mid new mid_port mid_port made sent failed sent failed Silent far last refl (omega arith) (omega arith)

  pub cut_before : (mid new : Call) (new_port : P) (made sent failed : ℕ) → SoFar mid new_port made sent failed → made < most_steps
      → new ≡ mid → (IsIdle mid now → ⊥) → IsCutOff sends count now call port new new_port
  cut_before mid new new_port made sent failed far le same due =
      (far.steps, mid, new_port, omega (arith, le, far.made_is), far.run, far.handed, inl (same, refl, due))

  pub cut_untold : (mid new : Call) (mid_port new_port : P) (made sent failed : ℕ) (d : Datagram) → SoFar mid mid_port made sent failed → made < most_steps
      → Pumps mid now (Send d) new → sending.Sends mid (Send d) → SendsOne sends count mid_port d true new_port → IsCutOff sends count now call port new new_port
  cut_untold mid new mid_port new_port made sent failed d far le pumps right lost =
      (far.steps, mid, mid_port, omega (arith, le, far.made_is), far.run, far.handed, inr (d, pumps, right, lost))

moment_stays : (at now : ℕ) (moment : Option ℕ) → at ≤ now → is_due at moment ≡ true → is_due now moment ≡ true
moment_stays at now None le due = absurd cc
moment_stays at now (Some m) le due = le-leb m now (let h : m ≤ at = leb-true m at due in omega arith)

both_stay : (at now : ℕ) (runs : Bool) (moment : Option ℕ) → at ≤ now → (runs && is_due at moment) ≡ true → (runs && is_due now moment) ≡ true
both_stay at now true moment le due = moment_stays at now moment le due
both_stay at now false moment le due = absurd cc

-- what is due at a moment is so at each later one
due_stays : (call : Call) (at now : ℕ) (action : Action) → at ≤ now → is_due_at call at action ≡ true → is_due_at call now action ≡ true
due_stays call at now (SendRequest n) le due = due
due_stays call at now (SendCancel n) le due = due
due_stays call at now (SendAck n) le due = due
due_stays call at now SendAnswer le due = due
due_stays call at now TickServer le due = moment_stays at now (served_due call.server.machine) le due
due_stays call at now (TickClient n) le due = moment_stays at now (client_at (nth_branch call n)) le due
due_stays call at now (TickCancel n) le due = moment_stays at now (cancel_at (nth_branch call n)) le due
due_stays call at now (FireTimerC n) le due = both_stay at now (row_passes runs_timer_c call n) (timer_c_at (nth_branch call n)) le due
due_stays call at now (GiveUp n) le due = both_stay at now (row_passes is_cancelled call n) (give_up_at (nth_branch call n)) le due

idle_by : (b : Bool) → (b ≡ true → ⊥) → b ≡ false
idle_by true h = absurd (h refl)
idle_by false h = refl

pub idle_before : (call : Call) (now : ℕ) (least : Option ℕ) → IsLeastDue call least → is_due now least ≡ false → IsIdle call now
idle_before call now None is nothing_due = is now
idle_before call now (Some at) is nothing_due =
    let before : now < at = leb-false at now nothing_due in
    λ action. idle_by (is_due_at call now action) (λ h. absurd (let le = is.2 now action h in omega arith))

pub busy_from : (call : Call) (now : ℕ) (least : Option ℕ) → IsLeastDue call least → is_due now least ≡ true → IsIdle call now → ⊥
busy_from call now None is due idle = absurd cc
busy_from call now (Some at) is due idle =
    let came : at ≤ now = leb-true at now due in
    let nothing_due = idle is.0 in
    let busy = due_stays call at now is.0 came is.1 in
    absurd cc

module _ {P : Type 0} (sends : Sends P) (count : P → ℕ) (now : ℕ) (call : Call) (port : P) where
  pub carried_out : (new : Call) (new_port : P) (sent failed : ℕ) (idle : Bool) (least : Option ℕ) → IsRunOut sends count now call port new new_port sent failed idle
      → IsLeastDue new least → (more : Bool) → more ≡ (not idle && is_due now least) → IsCarriedOut sends count now call port new new_port sent failed more
  carried_out new new_port sent failed true least run is more e = record {
    steps = run.steps;
    run = run.run;
    handed = run.handed;
    few = run.few;
    sent_are = run.sent_are;
    failed_are = run.failed_are;
    done = λ h. run.done refl;
    not_done = λ h. absurd cc;
  }
  carried_out new new_port sent failed false least run is more e = record {
    steps = run.steps;
    run = run.run;
    handed = run.handed;
    few = run.few;
    sent_are = run.sent_are;
    failed_are = run.failed_are;
    done = λ h. idle_before new now least is (sym e ∙ h);
    not_done = λ h. (run.long refl, busy_from new now least is (sym e ∙ h));
  }

use Rattle.call_state.proofs.Common.{◌≡◌, ◌∙◌, ℕ, ap, refl, sym, subst, true, false, Bool, [], Option, Some, None, List, slice_get, is_trying, Hop, TxOut, Machine, OtherClientState, machine_after, out_of, other_client, Datagram}
use Rattle.call_state.proofs.Common.{Call, nth_branch, row_passes, set_branch, ClientTransaction, client_after, client_out, ack_on, Destination, CancelTransaction, Branch, cancel_on, changed_branch, responded, with_client, PostsBare, Posts, Did, FiresTimerC, OnPart, kept, reliability_of, without_timer_c}
use Rattle.call_state.proofs.Common.{Pumped, Send, TicksClientBy, is_request, is_timeout, sent_if, stopped, ticked}
use Rattle.std.proofs.Common.{option_map}
use Rattle.fork_model.specs.Event as fork
use Rattle.sip_txn.specs.declared.event.TxEvent.TheVariants as event
use Rattle.call_model.specs.declared.cause.Cause.TheVariants as cause
use Rattle.call_branch.specs.AckOwed.{ack_owed}
use Rattle.call_model.specs.Branch.{cancel_start}
use Rattle.call_branch.specs.BranchInside.{cancelled, without_ack}
use Rattle.call_model.specs.Pump.{GivesUp, OnBranch, SendsAck, SendsCancel, TicksCancel, TicksClient, cancel_bytes, cancel_started}
use Rattle.call_state.proofs.Changing.{changed_part, posts_part, still_there}

pub same_branch : (o : Option Branch) (a b : Branch) → o ≡ Some a → o ≡ Some b → a ≡ b
same_branch o a b e f = let h : Some a ≡ Some b = sym e ∙ f in cc

pub same_destination : (o : Option Destination) (a b : Destination) → o ≡ Some a → o ≡ Some b → a ≡ b
same_destination o a b e f = let h : Some a ≡ Some b = sym e ∙ f in cc

pub same_cancelling : (o : Option CancelTransaction) (a b : CancelTransaction) → o ≡ Some a → o ≡ Some b → a ≡ b
same_cancelling o a b e f = let h : Some a ≡ Some b = sym e ∙ f in cc

module _ (call new : Call) (n now : ℕ) (destination : Destination) (branch : Branch) (there : nth_branch call n ≡ Some branch) (goes : slice_get call.destinations n ≡ Some destination) where
  -- ---- what is sent

  pub cancel_sent : (to : Hop) (bytes sent : List ℕ) (cancelling : CancelTransaction)
      → to ≡ destination.hop
      → bytes ≡ sent
      → sent ≡ cancel_bytes call n destination
      → cancelling ≡ cancel_start now sent (reliability_of to.transport)
      → new ≡ record call { branches = changed_branch (cancelled cancelling) call.branches n }
      → OnBranch call n (λ w l. SendsCancel call now n w l (Send (record { to = to; bytes = bytes; cause = cause.Cancel n })) new)
  cancel_sent to bytes sent cancelling to_is same spelled starts changed =
      let text = cancel_bytes call n destination in
      let begins : cancelling ≡ cancel_started call now n destination = starts ∙ (rw (spelled, to_is) refl) in
      let all : bytes ≡ text = same ∙ spelled in
      let out : Send (record { to = to; bytes = bytes; cause = cause.Cancel n }) ≡ Send (record { to = destination.hop; bytes = text; cause = cause.Cancel n }) =
      rw (to_is, all) refl in
      let follows : new ≡ set_branch call n (cancelled (cancel_started call now n destination) branch) =
      changed ∙ changed_part (cancelled cancelling) call n branch there ∙ ap (λ (c : CancelTransaction). set_branch call n (cancelled c branch)) begins in
      (destination, branch, goes, there, (out, follows))

  pub ack_sent : (to : Hop) (bytes : List ℕ)
      → to ≡ destination.hop
      → Some bytes ≡ ack_owed call n
      → new ≡ record call { branches = changed_branch without_ack call.branches n }
      → OnBranch call n (λ w l. SendsAck call n w l (Send (record { to = to; bytes = bytes; cause = cause.Ack n })) new)
  ack_sent to bytes to_is owed changed =
      let is : branch.ack ≡ Some bytes = sym (owed ∙ ap ack_on there) in
      let out : Send (record { to = to; bytes = bytes; cause = cause.Ack n }) ≡ Send (record { to = destination.hop; bytes = bytes; cause = cause.Ack n }) = rw to_is refl in
      (destination, branch, goes, there, (bytes, is, out, changed ∙ changed_part without_ack call n branch there))

  -- ---- a tick of the transaction of its CANCEL

  module _ (cancelling : CancelTransaction) (client : Machine OtherClientState) (out : TxOut)
      (is : branch.cancelling ≡ Some cancelling)
      (client_is : client ≡ machine_after other_client event.Tick now cancelling.client)
      (out_is : out ≡ out_of other_client event.Tick now cancelling.client)
      (changed : new ≡ record call { branches = changed_branch (cancel_on client) call.branches n }) where
    cancel_goes_on : new ≡ set_branch call n (record branch { cancelling = Some (record cancelling { client = machine_after other_client event.Tick now cancelling.client }) })
    cancel_goes_on =
        changed ∙ changed_part (cancel_on client) call n branch there
        ∙ ap (λ (o : Option CancelTransaction). set_branch call n (record branch { cancelling = option_map (with_client client) o })) is
        ∙ ap (λ (m : Machine OtherClientState). set_branch call n (record branch { cancelling = Some (record cancelling { client = m }) })) client_is

    abbrev pub cancel_again : Datagram
    cancel_again = record { to = destination.hop; bytes = cancelling.sent; cause = cause.Cancel n }

    cancel_sends : (b : Bool) → is_request out.send ≡ b → sent_if b cancel_again ≡ sent_if (is_request (out_of other_client event.Tick now cancelling.client).send) cancel_again
    cancel_sends b e = ap (λ (x : Bool). sent_if x cancel_again) (sym (ap (λ (o : TxOut). is_request o.send) (sym out_is) ∙ e))

    pub cancel_ticked_silent : is_request out.send ≡ false → OnBranch call n (λ w l. TicksCancel call now n w l Did new)
    cancel_ticked_silent e = (destination, branch, goes, there, (cancelling, is, cancel_sends false e, cancel_goes_on))

    pub cancel_ticked_sent : (d : Datagram) → is_request out.send ≡ true → d ≡ cancel_again → OnBranch call n (λ w l. TicksCancel call now n w l (Send d) new)
    cancel_ticked_sent d e same = (destination, branch, goes, there, (cancelling, is, ap Send same ∙ cancel_sends true e, cancel_goes_on))

  -- ---- a tick of its transaction

  module _ (client : ClientTransaction) (out : TxOut)
      (client_is : client ≡ client_after event.Tick now branch.client)
      (out_is : out ≡ client_out event.Tick now branch.client) where
    abbrev pub request_again : Datagram
    request_again = record { to = destination.hop; bytes = branch.sent; cause = cause.Request n }

    by_timeout : (b : Bool) → is_timeout out.pass ≡ b → b ≡ is_timeout (client_out event.Tick now branch.client).pass
    by_timeout b e = sym (ap (λ (o : TxOut). is_timeout o.pass) (sym out_is) ∙ e)

    client_sends : (b : Bool) → is_request out.send ≡ b → sent_if b request_again ≡ sent_if (is_request (client_out event.Tick now branch.client).send) request_again
    client_sends b e = ap (λ (x : Bool). sent_if x request_again) (sym (ap (λ (o : TxOut). is_request o.send) (sym out_is) ∙ e))

    client_goes_on : new ≡ record call { branches = changed_branch (responded client None) call.branches n } → new ≡ set_branch call n (ticked branch now)
    client_goes_on changed = changed ∙ changed_part (responded client None) call n branch there ∙ ap (λ (c : ClientTransaction). set_branch call n (record branch { client = c })) client_is

    ticks : (p : Pumped) (b : Bool) → is_timeout out.pass ≡ b → TicksClientBy call now n destination branch b p new → OnBranch call n (λ w l. TicksClient call now n w l p new)
    ticks p b e by = let B : Bool → Type 0 = λ x. TicksClientBy call now n destination branch x p new in (destination, branch, goes, there, subst B (by_timeout b e) by)

    pub client_timed_out : is_timeout out.pass ≡ true → OnPart call n (λ l. PostsBare (set_branch call n (record l { client = client })) (fork.Timeout n) new)
        → OnBranch call n (λ w l. TicksClient call now n w l Did new)
    client_timed_out e (l, at, (reply, posts)) =
        let P : Branch → Type 0 = λ x. Posts (set_branch call n (record x { client = client })) (fork.Timeout n) [] None reply new in
        let Q : ClientTransaction → Type 0 = λ c. Posts (set_branch call n (record branch { client = c })) (fork.Timeout n) [] None reply new in
        ticks Did true e (refl, reply, subst Q client_is (subst P (same_branch _ l branch at there) posts))

    pub client_ticked_silent : is_timeout out.pass ≡ false → is_request out.send ≡ false → new ≡ record call { branches = changed_branch (responded client None) call.branches n }
        → OnBranch call n (λ w l. TicksClient call now n w l Did new)
    client_ticked_silent e quiet changed = ticks Did false e (client_sends false quiet, client_goes_on changed)

    pub client_ticked_sent : (d : Datagram) → is_timeout out.pass ≡ false → is_request out.send ≡ true → d ≡ request_again
        → new ≡ record call { branches = changed_branch (responded client None) call.branches n }
        → OnBranch call n (λ w l. TicksClient call now n w l (Send d) new)
    client_ticked_sent d e sends same changed = ticks (Send d) false e (ap Send same ∙ client_sends true sends, client_goes_on changed)

-- ---- the ends of waiting

module _ (call new : Call) (n now : ℕ) (branch : Branch) (there : nth_branch call n ≡ Some branch) (client : ClientTransaction) (client_is : client ≡ client_after event.Stop now branch.client) where
  posts_stopped : (ev : fork.Event) → OnPart call n (λ l. PostsBare (set_branch call n (record l { client = client })) ev new) → PostsBare (set_branch call n (stopped branch now)) ev new
  posts_stopped ev (l, at, (reply, posts)) =
      let P : Branch → Type 0 = λ x. Posts (set_branch call n (record x { client = client })) ev [] None reply new in
      let Q : ClientTransaction → Type 0 = λ c. Posts (set_branch call n (record branch { client = c })) ev [] None reply new in
      (reply, subst Q client_is (subst P (same_branch _ l branch at there) posts))

  pub given_up : OnPart call n (λ l. PostsBare (set_branch call n (record l { client = client })) (fork.GiveUp n) new) → OnPart call n (λ l. GivesUp call now n l Did new)
  given_up ended = let p = posts_stopped (fork.GiveUp n) ended in (branch, there, (refl, p.0, p.1))

  fires : (b : Bool) → row_passes is_trying call n ≡ b → FiresTimerC call now n branch b Did new → OnPart call n (λ l. FiresTimerC call now n l (row_passes is_trying call n) Did new)
  fires b e by = let B : Bool → Type 0 = λ x. FiresTimerC call now n branch x Did new in (branch, there, subst B (sym e) by)

  pub timer_c_ends : row_passes is_trying call n ≡ true → OnPart call n (λ l. PostsBare (set_branch call n (record l { client = client })) (fork.TimerC n) new)
      → OnPart call n (λ l. FiresTimerC call now n l (row_passes is_trying call n) Did new)
  timer_c_ends e ended = let p = posts_stopped (fork.TimerC n) ended in fires true e (refl, p.0, p.1)

  pub timer_c_cancels : (mid : Call) → row_passes is_trying call n ≡ false → PostsBare call (fork.TimerC n) mid → new ≡ record mid { branches = changed_branch (kept None None) mid.branches n }
      → OnPart call n (λ l. FiresTimerC call now n l (row_passes is_trying call n) Did new)
  timer_c_cancels mid e (reply, posts) changed =
      let later : nth_branch mid n ≡ Some branch = still_there call mid (fork.TimerC n) [] None reply posts n branch there in
      let set : new ≡ set_branch mid n (without_timer_c branch) = changed ∙ changed_part (kept None None) mid n branch later in
      let P : Call → Type 0 = λ x. Posts (set_branch call n (without_timer_c branch)) (fork.TimerC n) [] None reply x in
      fires false e (refl, reply, subst P (sym set) (posts_part call mid (fork.TimerC n) [] None reply posts n branch (without_timer_c branch) there))

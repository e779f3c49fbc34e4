use Rattle.call_state.proofs.Common.{◌≡◌, ◌∙◌, ℕ, ap, refl, sym, subst, true, false, Bool, List, Option, Some, None, slice_get, ◌↔◌, IsTrue, nat_lt, cond, Event, MessageText, spelling, TxOut, TxSend, Destination, ClientTransaction, client_after, client_out}
use Rattle.call_state.proofs.Common.{Branch, Call, nth_branch, set_branch, with_branch, ack_to, status_of, responded, kept, changed_branch, ack_made, answer_if, kept_if, is_full, HasFirst, core_of, table_of, PostsSaid, contacts_for, event_by, Posts}
use Rattle.call_state.proofs.Common.{RespondsOn, Absorbed, Posted, Full, going_up, response_event, is_passed, ack_by, branch_after, branch_posted, timer_c_again, answer_kept, Closing, closed_by, closing_after}
use Rattle.sip_txn.specs.declared.event.TxSend.TheVariants as send
use Rattle.call_branch.proofs.laws.BranchLists.{changed_is, found_is}
use Rattle.call_state.proofs.Changing.{at_set, changed_part, posts_closed, posts_part, set_twice, still_there}

pub responded_made : (client : ClientTransaction) (to : TxSend) (bytes : List ℕ) (branch : Branch) → responded client (ack_made to bytes) branch ≡ record branch { client = client; ack = ack_by to bytes branch.ack }
responded_made client send.Nothing bytes branch = refl
responded_made client send.Request bytes branch = refl
responded_made client send.Ack bytes branch = refl
responded_made client send.Response bytes branch = refl

module _ (call : Call) (n now status : ℕ) (m : MessageText) (branch : Branch) (destination : Destination) (client : ClientTransaction) (out : TxOut) (ack : Option (List ℕ))
    (there : nth_branch call n ≡ Some branch)
    (goes : slice_get call.destinations n ≡ Some destination)
    (status_is : status ≡ status_of m)
    (client_is : client ≡ client_after (response_event status) now branch.client)
    (out_is : out ≡ client_out (response_event status) now branch.client)
    (ack_is : ack ≡ ack_made out.send (spelling (ack_to call.opened destination n m))) where
  -- the part that is made is the one that is asked for
  pub responded_is : responded client ack branch ≡ branch_after call n branch destination now m
  responded_is =
      let bytes = spelling (ack_to call.opened destination n m) in
      let made : responded client ack branch ≡ record branch { client = client; ack = ack_by out.send bytes branch.ack } =
      ap (λ (a : Option (List ℕ)). responded client a branch) ack_is ∙ responded_made client out.send bytes branch in
      made ∙ rw (client_is, out_is, status_is) refl

  changed_here : changed_branch (responded client ack) call.branches n ≡ with_branch call.branches n (branch_after call n branch destination now m)
  changed_here = changed_is (responded client ack) call.branches n branch (found_is (slice_get call.branches n) branch there) ∙ ap (with_branch call.branches n) responded_is

  passes_by : is_passed (client_out (response_event (status_of m)) now branch.client).pass ≡ is_passed out.pass
  passes_by = rw (out_is, status_is) refl

  pub absorbed : is_passed out.pass ≡ false → RespondsOn call n now m Absorbed (record call { branches = changed_branch (responded client ack) call.branches n })
  absorbed kept_back = (branch, destination, there, goes, (passes_by ∙ kept_back, ap (λ (ls : List (Option Branch)). record call { branches = ls }) changed_here))

  -- ---- a response that is posted

  abbrev pub branch_last : (first : Bool) → Branch
  branch_last first = branch_posted first destination.longest (branch_after call n branch destination now m) now (status_of m) m

  kept_by : (b first : Bool) (at : Option ℕ) (l : Branch) → kept at (kept_if first (cond {A = Option MessageText} b None (Some m))) l
      ≡ record l { timer_c_at = at; answer = cond {A = Option MessageText} b l.answer (cond first (Some m) l.answer) }
  kept_by true true at l = refl
  kept_by true false at l = refl
  kept_by false true at l = refl
  kept_by false false at l = refl

  last_is : (first : Bool) → kept (timer_c_again now status destination.longest branch.timer_c_at) (kept_if first (answer_if status m)) (responded client ack branch) ≡ branch_last first
  last_is first =
      let l = branch_after call n branch destination now m in
      let failure = kept_if first (answer_if status m) in
      let made : kept (timer_c_again now status destination.longest branch.timer_c_at) failure (responded client ack branch) ≡ kept (timer_c_again now status destination.longest branch.timer_c_at) failure l =
      ap (kept (timer_c_again now status destination.longest branch.timer_c_at) failure) responded_is in
      let all : kept (timer_c_again now status destination.longest branch.timer_c_at) failure l ≡ record l { timer_c_at = timer_c_again now status destination.longest branch.timer_c_at; answer = answer_kept first status m l.answer } =
      kept_by (nat_lt status 300) first _ l in
      made ∙ all ∙ rw status_is refl

  pub posted : (event : Event) (at : ℕ) (first : Bool) (mid new kept_on last : Call)
      → PostsSaid call event (contacts_for call.opened.tried status m) (going_up status m) at mid
      → event ≡ event_by call.opened.tried n status m
      → is_passed out.pass ≡ true
      → new ≡ record mid { branches = changed_branch (responded client ack) mid.branches n }
      → (IsTrue first ↔ HasFirst (table_of mid.log) n)
      → kept_on ≡ record new { branches = changed_branch (kept (timer_c_again now status destination.longest branch.timer_c_at) (kept_if first (answer_if status m))) new.branches n }
      → last ≡ closed_by (closing_after (table_of kept_on.log).closed status kept_on.closing) kept_on
      → RespondsOn call n now m (Posted at) last
  posted event at first mid new kept_on last (reply, at_is, posts) event_is passed_on went leads second noted =
      let f = kept (timer_c_again now status destination.longest branch.timer_c_at) (kept_if first (answer_if status m)) in
      let part = branch_last first in
      let l = responded client ack branch in
      let cs = contacts_for call.opened.tried status m in
      let later : nth_branch mid n ≡ Some branch = still_there call mid event cs (going_up status m) reply posts n branch there in
      let once : new ≡ set_branch mid n l = went ∙ changed_part (responded client ack) mid n branch later in
      let P : Call → Type 0 = λ x. nth_branch x n ≡ Some l in
      let after : nth_branch new n ≡ Some l = subst P (sym once) (at_set mid n branch l later) in
      let twice : kept_on ≡ set_branch mid n part =
      second ∙ changed_part f new n l after ∙ ap (λ (x : Call). set_branch x n (f l)) once ∙ set_twice mid n l (f l) ∙ ap (set_branch mid n) (last_is first) in
      let same : mid.closing ≡ call.closing = ap (λ (x : Call). x.closing) posts.follows in
      let by : ℕ → Closing → Closing = λ s k. closing_after (table_of mid.log).closed s k in
      let whole : last ≡ closed_by (by (status_of m) call.closing) (set_branch mid n part) =
      noted ∙ ap (λ (x : Call). closed_by (closing_after (table_of x.log).closed status x.closing) x) twice
      ∙ ap (λ (k : Closing). closed_by (by status k) (set_branch mid n part)) same
      ∙ ap (λ (s : ℕ). closed_by (by s call.closing) (set_branch mid n part)) status_is in
      let before : Call = closed_by (by (status_of m) call.closing) (set_branch call n part) in
      let behind : Call = closed_by (by (status_of m) call.closing) (set_branch mid n part) in
      let all : Posts (set_branch call n part) event cs (going_up status m) reply (set_branch mid n part) = posts_part call mid event cs (going_up status m) reply posts n branch part there in
      let closes : Posts before event cs (going_up status m) reply behind = posts_closed (set_branch call n part) (set_branch mid n part) event cs (going_up status m) reply all (by (status_of m) call.closing) in
      let E : Event → Type 0 = λ e. Posts before e cs (going_up status m) reply behind in
      let S : ℕ → Type 0 = λ s. Posts before (event_by call.opened.tried n s m) (contacts_for call.opened.tried s m) (going_up s m) reply behind in
      let N : Call → Type 0 = λ x. Posts (closed_by (closing_after (table_of x.log).closed (status_of m) call.closing) (set_branch call n part)) (event_by call.opened.tried n (status_of m) m) (contacts_for call.opened.tried (status_of m) m) (going_up (status_of m) m) reply x in
      let L : Call → Type 0 = λ x. IsTrue first ↔ HasFirst (table_of x.log) n in
      (branch, destination, there, goes, (passes_by ∙ passed_on, reply, at_is, first, subst L (sym whole) leads, subst N (sym whole) (subst S status_is (subst E event_is closes))))

  pub refused : (event : Event) → event ≡ event_by call.opened.tried n status m → is_full (core_of call.log) event ≡ true → is_passed out.pass ≡ true → RespondsOn call n now m Full call
  refused event event_is full passed_on =
      let full_by : is_full (core_of call.log) (event_by call.opened.tried n (status_of m) m) ≡ true = sym (ap (λ (s : ℕ). is_full (core_of call.log) (event_by call.opened.tried n s m)) status_is) ∙ sym (ap (is_full (core_of call.log)) event_is) ∙ full in
      (branch, destination, there, goes, (passes_by ∙ passed_on, full_by, refl))

use Rattle.call_state.proofs.Common.{◌≡◌, ◌↔◌, ◌<◌, ◌≤◌, ◌∙◌, IsTrue, ap, sym, subst, arith, length, Option, refl, true, false, option_map, TxEvent, Call, client_after, client_out, Branch, MessageText, PostsSaid, contacts_for, HasFirst}
use Rattle.call_state.proofs.Common.{event_of, core_of, table_of, Core, changed_branch, responded, kept, answer_if, kept_if, RespondsOn, response_event, is_passed, going_up, timer_c_again, Absorbed, Full}
use Rattle.call_branch.proofs.laws.BranchLists.{length_changed}
use Rattle.call_state.proofs.Changing.{branch_below}
use Rattle.call_state.proofs.Responding.{absorbed, posted, refused}
use Rattle.call_state.proofs.state.CallState.respond.Goals as goal

pub returns-then-not-is_passed-clause-ok : goal.returns-then-not-is_passed-clause-ok
returns-then-not-is_passed-clause-ok g c =
    let client_is : c.on_event-client.result.0 ≡ client_after (response_event c.args.status) c.args.now c.part-branch.result.now.client =
    c.on_event-client.ensures.after ∙ ap (λ (e : TxEvent). client_after e c.args.now c.part-branch.result.now.client) c.response_event.ensures in
    let out_is : c.on_event-client.result.1 ≡ client_out (response_event c.args.status) c.args.now c.part-branch.result.now.client =
    c.on_event-client.ensures.out ∙ ap (λ (e : TxEvent). client_out e c.args.now c.part-branch.result.now.client) c.response_event.ensures in
    let ack = option_map (λ v. v.items) c.in_ok-ack.ack in
    let kept_back : is_passed c.on_event-client.result.1.pass ≡ false = let a = c.is_passed.ensures in let b = c.if-not-is_passed.true in cc in
    let N : Call → Type 0 = λ x. RespondsOn c.args.self.now c.args.n c.args.now c.args.message Absorbed x in
    subst N (sym c.respond_branch.ensures) (absorbed c.args.self.now c.args.n c.args.now c.args.status c.args.message c.part-branch.result.now c.destination-destination.result.now c.on_event-client.result.0 c.on_event-client.result.1 ack
    c.part-branch.ensures c.destination-destination.ensures c.requires.status client_is out_is c.in_ok-ack.ensures kept_back)

pub returns-in-Err-clause-full : goal.returns-in-Err-clause-full
returns-in-Err-clause-full g c = λ refusing.
    let client_is : c.on_event-client.result.0 ≡ client_after (response_event c.args.status) c.args.now c.part-branch.result.now.client =
    c.on_event-client.ensures.after ∙ ap (λ (e : TxEvent). client_after e c.args.now c.part-branch.result.now.client) c.response_event.ensures in
    let out_is : c.on_event-client.result.1 ≡ client_out (response_event c.args.status) c.args.now c.part-branch.result.now.client =
    c.on_event-client.ensures.out ∙ ap (λ (e : TxEvent). client_out e c.args.now c.part-branch.result.now.client) c.response_event.ensures in
    let ack = option_map (λ v. v.items) c.in_ok-ack.ack in
    let passed_on : is_passed c.on_event-client.result.1.pass ≡ true = let a = c.is_passed.ensures in let b = c.if-not-is_passed.false in cc in
    let N : Call → Type 0 = λ x. RespondsOn c.args.self.now c.args.n c.args.now c.args.message Full x in
    subst N (sym c.in-Err.ensures.err) (refused c.args.self.now c.args.n c.args.now c.args.status c.args.message c.part-branch.result.now c.destination-destination.result.now c.on_event-client.result.0 c.on_event-client.result.1 ack
    c.part-branch.ensures c.destination-destination.ensures c.requires.status client_is out_is c.in_ok-ack.ensures (event_of c.in_ok-new_event.new_event.event) c.in_ok-new_event.ensures.event (c.in-Err.ensures.full (let r = refusing in cc)) passed_on)

pub respond_branch-requires-2 : goal.respond_branch-requires-2
respond_branch-requires-2 g c =
    let below : c.args.n < length c.args.self.now.branches = branch_below c.args.self.now c.args.n c.part-branch.result.now c.part-branch.ensures in
    let longer : length c.args.self.now.branches ≤ length c.post_response.new.self.branches = c.in-Ok.ensures.longer in
    record { there = omega (arith, below, longer) }

pub keep_branch-requires : goal.keep_branch-requires
keep_branch-requires g c =
    let L : Call → Type 0 = λ x. c.args.n < length x.branches in
    let below : c.args.n < length c.args.self.now.branches = branch_below c.args.self.now c.args.n c.part-branch.result.now c.part-branch.ensures in
    let longer : length c.args.self.now.branches ≤ length c.post_response.new.self.branches = c.in-Ok.ensures.longer in
    let f = responded c.on_event-client.result.0 (option_map (λ v. v.items) c.in_ok-ack.ack) in
    let same : length (changed_branch f c.post_response.new.self.branches c.args.n) ≡ length c.post_response.new.self.branches = length_changed f c.post_response.new.self.branches c.args.n in
    let lt : c.args.n < length (changed_branch f c.post_response.new.self.branches c.args.n) = omega (arith, below) in
    record { there = subst L (sym c.respond_branch-2.ensures) lt }

pub returns-clause-ok : goal.returns-clause-ok
returns-clause-ok g c =
    let client_is : c.on_event-client.result.0 ≡ client_after (response_event c.args.status) c.args.now c.part-branch.result.now.client =
    c.on_event-client.ensures.after ∙ ap (λ (e : TxEvent). client_after e c.args.now c.part-branch.result.now.client) c.response_event.ensures in
    let out_is : c.on_event-client.result.1 ≡ client_out (response_event c.args.status) c.args.now c.part-branch.result.now.client =
    c.on_event-client.ensures.out ∙ ap (λ (e : TxEvent). client_out e c.args.now c.part-branch.result.now.client) c.response_event.ensures in
    let ack = option_map (λ v. v.items) c.in_ok-ack.ack in
    let passed_on : is_passed c.on_event-client.result.1.pass ≡ true = let a = c.is_passed.ensures in let b = c.if-not-is_passed.false in cc in
    let post : PostsSaid c.args.self.now (event_of c.in_ok-new_event.new_event.event) (contacts_for c.args.self.now.opened.tried c.args.status c.args.message) (going_up c.args.status c.args.message) c.in-Ok.at c.post_response.new.self =
    let U : Option MessageText → Type 0 = λ up. PostsSaid c.args.self.now (event_of c.in_ok-new_event.new_event.event) (contacts_for c.args.self.now.opened.tried c.args.status c.args.message) up c.in-Ok.at c.post_response.new.self in
    subst U c.split_response-up.ensures.up (c.in-Ok.ensures.ok (contacts_for c.args.self.now.opened.tried c.args.status c.args.message) c.in_ok-new_event.ensures.destinations) in
    let mid = c.respond_branch-2.new.self in
    let first = c.is_first-first.result in
    let B : Core → Type 0 = λ core. IsTrue first ↔ HasFirst core.table c.args.n in
    let L : Call → Type 0 = λ x. IsTrue first ↔ HasFirst (table_of x.log) c.args.n in
    let here : L c.respond_branch-2.new.self = subst B (c.context.ensures.stands ∙ ap core_of c.book.ensures) c.is_first-first.ensures in
    let leads : L c.post_response.new.self = subst L c.respond_branch-2.ensures here in
    let failure_is : c.keep_if_best.result ≡ kept_if first (answer_if c.args.status c.args.message) = c.keep_if_best.ensures ∙ ap (kept_if first) c.split_response-up.ensures.kept in
    let by_timer : kept c.timer_c_again-timer_c_at.result c.keep_if_best.result ≡ kept (timer_c_again c.args.now c.args.status c.destination-destination.result.now.longest c.part-branch.result.now.timer_c_at) (kept_if first (answer_if c.args.status c.args.message)) =
    rw (c.timer_c_again-timer_c_at.ensures, c.longest.ensures, failure_is) refl in
    let last : c.keep_branch.new.self ≡ record mid { branches = changed_branch (kept (timer_c_again c.args.now c.args.status c.destination-destination.result.now.longest c.part-branch.result.now.timer_c_at) (kept_if first (answer_if c.args.status c.args.message))) mid.branches c.args.n } =
    c.keep_branch.ensures ∙ ap (λ (f : Branch → Branch). record mid { branches = changed_branch f mid.branches c.args.n }) by_timer in
    posted c.args.self.now c.args.n c.args.now c.args.status c.args.message c.part-branch.result.now c.destination-destination.result.now c.on_event-client.result.0 c.on_event-client.result.1 ack
    c.part-branch.ensures c.destination-destination.ensures c.requires.status client_is out_is c.in_ok-ack.ensures (event_of c.in_ok-new_event.new_event.event) c.in-Ok.at first c.post_response.new.self c.respond_branch-2.new.self c.keep_branch.new.self c.note_closing.new.self
    post c.in_ok-new_event.ensures.event passed_on c.respond_branch-2.ensures leads last c.note_closing.ensures

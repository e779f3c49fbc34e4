use Rattle.call_state.proofs.Common.{◌≡◌, ◌∙◌, ℕ, ap, sym, subst, true, List, map, Some, None, slice_get, IfOk, list_all, option_and_then, option_copied, Best, stored_at, Core, Offer, left_of, core_of, table_of, is_value, MessageText}
use Rattle.call_state.proofs.Common.{texts, is_challenge, IsText, answer_in, kept_at, text_of, was_received, nth_branch}
use Rattle.std.proofs.Common.{option_map}
use Rattle.call_state.proofs.Paying.{best_made, challenges_all, challenges_pass, forward_of, has_kept, kept_left, left_pass, texts_pass}
use Rattle.call_state.proofs.StateRows.{received_shown}
use Rattle.call_state.proofs.state.CallState.best_answer.Goals as goal

pub unreachable-requires : goal.unreachable-requires
unreachable-requires g c =
    let t = table_of c.args.self.now.log in
    let received : was_received (stored_at (slice_get t.rows c.args.n)) ≡ true =
    let a = c.shows_received.ensures in
    let b = c.if-not-shows_received.false in
    let d = c.state.ensures in
    let e = received_shown (slice_get t.rows c.args.n) in
    cc in
    let none : answer_in (nth_branch c.args.self.now c.args.n) ≡ None = sym c.kept_answer.ensures ∙ ap option_copied c.in_default.is in
    has_kept c.args.self.now c.args.n c.requires.answers c.requires.chosen received none

pub upward_answer-requires-clause-second : goal.upward_answer-requires-clause-second
upward_answer-requires-clause-second g c =
    forward_of c.args.self.now c.args.n c.in-Some.response.now c.requires.sound (sym c.kept_answer.ensures ∙ ap option_copied c.in-Some.is)

pub upward_answer-requires-2-clause-second : goal.upward_answer-requires-2-clause-second
upward_answer-requires-2-clause-second g c =
    forward_of c.args.self.now c.args.n c.in-Some.response.now c.requires.sound (sym c.kept_answer.ensures ∙ ap option_copied c.in-Some.is)

pub upward_answer-requires-clause-challenges : goal.upward_answer-requires-clause-challenges
upward_answer-requires-clause-challenges g c =
    let t = table_of c.args.self.now.log in
    let all = challenges_all c.args.self.now.log c.args.n c.context.result.now c.new-challenges.result.items c.challenges.new.out.items (c.context.ensures.stands ∙ ap core_of c.book.ensures) (c.in_ok-challenges.ensures.added (Some (Best c.args.n))) c.requires.chosen c.new-challenges.ensures.items in
    ap (list_all is_challenge) (c.deref.ensures.value ∙ all) ∙ challenges_pass t c.args.n c.requires.sound.stored

pub upward_answer-requires-2-clause-challenges : goal.upward_answer-requires-2-clause-challenges
upward_answer-requires-2-clause-challenges g c =
    let t = table_of c.args.self.now.log in
    let all = challenges_all c.args.self.now.log c.args.n c.context.result.now c.new-challenges.result.items c.challenges.new.out.items (c.context.ensures.stands ∙ ap core_of c.book.ensures) (c.in_ok-challenges.ensures.added (Some (Best c.args.n))) c.requires.chosen c.new-challenges.ensures.items in
    ap (list_all is_challenge) (c.deref-3.ensures.value ∙ all) ∙ challenges_pass t c.args.n c.requires.sound.stored

pub upward_answer-requires-2-clause-kept : goal.upward_answer-requires-2-clause-kept
upward_answer-requires-2-clause-kept g c =
    let t = table_of c.args.self.now.log in
    let left : option_copied c.left.result ≡ option_and_then left_of (slice_get t.rows c.args.n) =
    c.left.ensures.value ∙ ap (λ (x : Core). option_and_then left_of (slice_get x.table.rows c.args.n)) (c.context-2.ensures.stands ∙ ap core_of c.book-2.ensures) in
    let some : option_and_then left_of (slice_get t.rows c.args.n) ≡ Some c.in-Some-left.left.now = sym left ∙ ap option_copied c.in-Some-left.is in
    let same : texts c.deref-2.result.now ≡ map text_of c.in-Some-left.left.now = ap texts c.deref-2.ensures.value ∙ c.in_ok-texts.ensures in
    ap (list_all is_value) same ∙ texts_pass c.in-Some-left.left.now (left_pass t c.args.n c.in-Some-left.left.now c.requires.sound.stored some)

pub returns-in_default-left : goal.returns-in_default-left
returns-in_default-left g c =
    let t = table_of c.args.self.now.log in
    let all = challenges_all c.args.self.now.log c.args.n c.context.result.now c.new-challenges.result.items c.challenges.new.out.items (c.context.ensures.stands ∙ ap core_of c.book.ensures) (c.in_ok-challenges.ensures.added (Some (Best c.args.n))) c.requires.chosen c.new-challenges.ensures.items in
    let left : option_copied c.left.result ≡ option_and_then left_of (slice_get t.rows c.args.n) =
    c.left.ensures.value ∙ ap (λ (x : Core). option_and_then left_of (slice_get x.table.rows c.args.n)) (c.context-2.ensures.stands ∙ ap core_of c.book-2.ensures) in
    let there : answer_in (nth_branch c.args.self.now c.args.n) ≡ Some c.in-Some.response.now = sym c.kept_answer.ensures ∙ ap option_copied c.in-Some.is in
    let received : was_received (stored_at (slice_get t.rows c.args.n)) ≡ true =
    let a = c.shows_received.ensures in
    let b = c.if-not-shows_received.false in
    let d = c.state.ensures in
    let e = received_shown (slice_get t.rows c.args.n) in
    cc in
    let none : option_and_then left_of (slice_get t.rows c.args.n) ≡ None = sym left ∙ ap option_copied c.in_default-left.is in
    let keeps : kept_at (stored_at (slice_get t.rows c.args.n)) ≡ None = kept_left (slice_get t.rows c.args.n) received ∙ ap (option_map (λ (os : List Offer). map text_of os)) none in
    let made = best_made c.args.self.now c.args.n c.in-Some.response.now None c.deref.result.now there received keeps (sym (c.deref.ensures.value ∙ all)) in
    let P : MessageText → Type 0 = λ m. IfOk c.upward_answer.result (IsText m) in
    subst P made c.upward_answer.ensures

pub returns : goal.returns
returns g c =
    let t = table_of c.args.self.now.log in
    let all = challenges_all c.args.self.now.log c.args.n c.context.result.now c.new-challenges.result.items c.challenges.new.out.items (c.context.ensures.stands ∙ ap core_of c.book.ensures) (c.in_ok-challenges.ensures.added (Some (Best c.args.n))) c.requires.chosen c.new-challenges.ensures.items in
    let left : option_copied c.left.result ≡ option_and_then left_of (slice_get t.rows c.args.n) =
    c.left.ensures.value ∙ ap (λ (x : Core). option_and_then left_of (slice_get x.table.rows c.args.n)) (c.context-2.ensures.stands ∙ ap core_of c.book-2.ensures) in
    let there : answer_in (nth_branch c.args.self.now c.args.n) ≡ Some c.in-Some.response.now = sym c.kept_answer.ensures ∙ ap option_copied c.in-Some.is in
    let received : was_received (stored_at (slice_get t.rows c.args.n)) ≡ true =
    let a = c.shows_received.ensures in
    let b = c.if-not-shows_received.false in
    let d = c.state.ensures in
    let e = received_shown (slice_get t.rows c.args.n) in
    cc in
    let some : option_and_then left_of (slice_get t.rows c.args.n) ≡ Some c.in-Some-left.left.now = sym left ∙ ap option_copied c.in-Some-left.is in
    let same : texts c.deref-2.result.now ≡ map text_of c.in-Some-left.left.now = ap texts c.deref-2.ensures.value ∙ c.in_ok-texts.ensures in
    let keeps : kept_at (stored_at (slice_get t.rows c.args.n)) ≡ Some (texts c.deref-2.result.now) =
    kept_left (slice_get t.rows c.args.n) received ∙ ap (option_map (λ (os : List Offer). map text_of os)) some ∙ ap (λ (x : List (List ℕ)). Some x) (sym same) in
    let made = best_made c.args.self.now c.args.n c.in-Some.response.now (Some (texts c.deref-2.result.now)) c.deref-3.result.now there received keeps (sym (c.deref-3.ensures.value ∙ all)) in
    let P : MessageText → Type 0 = λ m. IfOk c.upward_answer-2.result (IsText m) in
    subst P made c.upward_answer-2.ensures

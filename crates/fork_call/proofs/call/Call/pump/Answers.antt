use Rattle.fork_call.proofs.Common.{◌≡◌, ◌∙◌, ℕ, ap, length, subst, sym, true, Option, Call, is_due_at, pumped, seen_action, retimed, row_of_action}
use Rattle.fork_call.proofs.Stepping.{done_right, pumped_timed}
use Rattle.fork_call.proofs.Touching.{does_pump}
use Rattle.call_model.specs.Pump.{Pumps}
use Rattle.fork_call.proofs.call.Call.pump.Goals as goal

pub invariant_of-self-2 : goal.invariant_of-self-2
invariant_of-self-2 g c =
    let call = c.self.inside.state in
    let R : Call → Type 0 = λ x. length x.log.replies ≡ length x.log.history in
    let D : Call → Type 0 = λ x. is_due_at x c.args.now (seen_action c.in-Some.action) ≡ true in
    let at : c.posted-at.result ≡ length call.log.history = c.posted-at.ensures.at ∙ sym (ap (λ (x : Call). length x.log.history) c.self.view_is) in
    let times : c.time_step.new.schedule ≡ retimed c.perform.new.state (row_of_action (seen_action c.in-Some.action)) (length call.log.history) c.self.inside.schedule =
    c.time_step.ensures
    ∙ ap (λ (r : Option ℕ). retimed c.perform.new.state r c.posted-at.result c.self.inside.schedule) c.row.ensures
    ∙ ap (λ (k : ℕ). retimed c.perform.new.state (row_of_action (seen_action c.in-Some.action)) k c.self.inside.schedule) at in
    pumped_timed c.calls_stay_sound.ensures.kept c.calls_send_right.ensures.kept c.positions_are_bounded.ensures.by_event c.new_rows_are_contacts.ensures.none c.others_stay_open.ensures.exact c.replies_list_all_that_became.ensures
    call c.perform.new.state c.self.inside.schedule c.time_step.new.schedule c.self.invariant c.is_sized.ensures.each_branch (subst R (sym c.self.view_is) c.posted-at.ensures.replied)
    c.args.now (seen_action c.in-Some.action) (pumped c.in_ok-step.step) (subst D (sym c.self.view_is) c.in-Some.ensures.some) c.in_ok-step.ensures.step times

pub returns-clause-right : goal.returns-clause-right
returns-clause-right g c =
    let D : Call → Type 0 = λ x. is_due_at x c.args.now (seen_action c.in-Some.action) ≡ true in
    done_right c.what_is_sent_is_right.ensures c.self.inside.state c.perform.new.state c.args.self.now c.self.invariant.right c.self.view_is
    c.args.now (seen_action c.in-Some.action) (pumped c.in_ok-step.step) (subst D (sym c.self.view_is) c.in-Some.ensures.some) c.in_ok-step.ensures.step

pub returns-clause-step : goal.returns-clause-step
returns-clause-step g c =
    let D : Call → Type 0 = λ x. is_due_at x c.args.now (seen_action c.in-Some.action) ≡ true in
    let P : Call → Type 0 = λ x. Pumps x c.args.now (pumped c.in_ok-step.step) c.perform.new.state in
    subst P c.self.view_is
    (does_pump c.self.inside.state c.perform.new.state c.args.now (seen_action c.in-Some.action) (pumped c.in_ok-step.step)
    (subst D (sym c.self.view_is) c.in-Some.ensures.some) c.in_ok-step.ensures.step)

pub perform-requires-clause-answers : goal.perform-requires-clause-answers
perform-requires-clause-answers g c = c.self.invariant.right.2.answers

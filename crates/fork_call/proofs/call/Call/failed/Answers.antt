use Rattle.fork_call.proofs.Common.{◌≡◌, ◌∙◌, ℕ, ap, length, subst, sym, Option, Call, retimed, row_of_cause}
use Rattle.fork_call.proofs.Stepping.{failed_timed}
use Rattle.fork_call.proofs.call.Call.failed.Goals as goal

pub invariant_of-self-2 : goal.invariant_of-self-2
invariant_of-self-2 g c =
    let call = c.self.inside.state in
    let R : Call → Type 0 = λ x. length x.log.replies ≡ length x.log.history in
    let at : c.posted-at.result ≡ length call.log.history = c.posted-at.ensures.at ∙ sym (ap (λ (x : Call). length x.log.history) c.self.view_is) in
    let times : c.time_step.new.schedule ≡ retimed c.failed.new.self (row_of_cause c.args.cause) (length call.log.history) c.self.inside.schedule =
    c.time_step.ensures
    ∙ ap (λ (r : Option ℕ). retimed c.failed.new.self r c.posted-at.result c.self.inside.schedule) c.row_of_cause.ensures
    ∙ ap (λ (k : ℕ). retimed c.failed.new.self (row_of_cause c.args.cause) k c.self.inside.schedule) at in
    failed_timed c.calls_stay_sound.ensures.kept c.calls_send_right.ensures.kept c.positions_are_bounded.ensures.by_event c.new_rows_are_contacts.ensures.none c.others_stay_open.ensures.exact c.replies_list_all_that_became.ensures
    call c.failed.new.self c.self.inside.schedule c.time_step.new.schedule c.self.invariant c.is_sized.ensures.each_branch (subst R (sym c.self.view_is) c.posted-at.ensures.replied)
    c.args.now c.args.cause c.in_ok-failed.ensures.ok times

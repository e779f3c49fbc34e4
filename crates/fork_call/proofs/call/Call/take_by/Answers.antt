use Rattle.fork_call.proofs.Common.{◌≡◌, ◌∙◌, ℕ, ◌≤◌, ◌++◌, ap, arith, length, replicate, subst, sym, List, None, Option, Core, most_targets, Log, table_of, status_of, Call, rows_of, seen_recipient, retimed, room_for, row_of_recipient}
use Rattle.call_state.specs.Matching.{BelongsTo}
use Rattle.fork_call.proofs.Arriving.{full_takes, ok_takes, on_err, same_on_err, taken_timed}
use Rattle.fork_call.proofs.call.Call.take_by.Goals as goal

pub returns-in_err-pad-clause-err : goal.returns-in_err-pad-clause-err
returns-in_err-pad-clause-err g c = on_err c.from_residual-in_err-pad.result (c.self.inside.state ≡ c.args.self.now) c.self.view_is

pub invariant_of-self-2 : goal.invariant_of-self-2
invariant_of-self-2 g c =
    let B : Call → Type 0 = λ x. BelongsTo x c.args.message (seen_recipient c.args.to) in
    let belongs = subst B (sym c.self.view_is) c.requires.belongs in
    let call = c.self.inside.state in
    let new = c.give-taken.new.state in
    let r = seen_recipient c.args.to in
    let R : Call → Type 0 = λ x. length x.log.replies ≡ length x.log.history in
    let at : c.posted-at.result ≡ length call.log.history = c.posted-at.ensures.at ∙ sym (ap (λ (x : Call). length x.log.history) c.self.view_is) in
    let room : c.room_for.result ≡ room_for (status_of c.args.message) = c.room_for.ensures ∙ ap room_for c.response_status.ensures in
    let padded : c.pad.new.self ≡ c.self.inside.schedule ++ replicate (room_for (status_of c.args.message)) None =
    c.in_ok-pad.ensures.ok ∙ ap (λ (p : ℕ). c.self.inside.schedule ++ replicate p None) room in
    let times : c.time_step.new.schedule ≡ retimed new (row_of_recipient r) (length call.log.history) (c.self.inside.schedule ++ replicate (room_for (status_of c.args.message)) None) =
    c.time_step.ensures
    ∙ ap (λ (row : Option ℕ). retimed new row c.posted-at.result c.pad.new.self) c.row_of_transaction.ensures
    ∙ ap (λ (k : ℕ). retimed new (row_of_recipient r) k c.pad.new.self) at
    ∙ ap (λ (ms : List (Option ℕ)). retimed new (row_of_recipient r) (length call.log.history) ms) padded in
    let few : length (rows_of new) ≤ most_targets =
    let rows = ap (λ (l : Log). length (table_of l).rows) c.book.ensures in
    let stands = ap (λ (k : Core). length k.table.rows) c.context.ensures.stands in
    let count = c.count-rows.ensures.value in
    let range = c.count-rows.ensures.range in
    omega (arith, rows, stands, count, range) in
    taken_timed c.calls_stay_sound.ensures.kept c.calls_send_right.ensures.kept c.positions_are_bounded.ensures.by_event c.new_rows_are_contacts.ensures.none c.others_stay_open.ensures.exact c.replies_list_all_that_became.ensures
    call new c.self.inside.schedule c.time_step.new.schedule c.self.invariant c.is_sized.ensures.each_branch (subst R (sym c.self.view_is) c.posted-at.ensures.replied)
    c.args.now c.args.message c.args.source r
    c.give-taken.result c.give-taken.ensures.step c.give-taken.ensures.err belongs c.is_message.ensures few times

pub returns-clause-step : goal.returns-clause-step
returns-clause-step g c =
    let B : Call → Type 0 = λ x. BelongsTo x c.args.message (seen_recipient c.args.to) in
    let belongs = subst B (sym c.self.view_is) c.requires.belongs in
    ok_takes c.self.inside.state c.give-taken.new.state c.args.self.now c.self.view_is c.args.now c.args.message c.args.source (seen_recipient c.args.to) belongs
    c.give-taken.result c.give-taken.ensures.step

pub returns-clause-full : goal.returns-clause-full
returns-clause-full g c =
    let B : Call → Type 0 = λ x. BelongsTo x c.args.message (seen_recipient c.args.to) in
    let belongs = subst B (sym c.self.view_is) c.requires.belongs in
    full_takes c.self.inside.state c.give-taken.new.state c.args.self.now c.self.view_is c.args.now c.args.message c.args.source (seen_recipient c.args.to) belongs
    c.give-taken.result c.give-taken.ensures.err c.give-taken.ensures.full

pub returns-clause-err : goal.returns-clause-err
returns-clause-err g c = same_on_err c.give-taken.result c.give-taken.new.state c.self.inside.state c.args.self.now c.self.view_is c.give-taken.ensures.err

pub give-taken-requires-clause-belongs : goal.give-taken-requires-clause-belongs
give-taken-requires-clause-belongs g c =
    let B : Call → Type 0 = λ x. BelongsTo x c.args.message (seen_recipient c.args.to) in
    subst B (sym c.self.view_is) c.requires.belongs

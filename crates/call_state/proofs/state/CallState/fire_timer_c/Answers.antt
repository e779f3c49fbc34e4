use Rattle.call_state.proofs.Common.{◌≡◌, ◌<◌, ◌≤◌, arith, length, refl, true, false, is_trying, row_passes}
use Rattle.call_state.proofs.Actions.{timer_c_cancels, timer_c_ends}
use Rattle.call_state.proofs.Changing.{branch_below}
use Rattle.call_model.proofs.laws.Fitting.{fired_fits, fired_is_sent}
use Rattle.call_state.proofs.state.CallState.fire_timer_c.Goals as goal

pub part-requires : goal.part-requires
part-requires g c = fired_is_sent c.args.self.now c.args.n c.args.now c.requires.due

pub post_bare-requires : goal.post_bare-requires
post_bare-requires g c = record { plain = refl; fits = fired_fits c.args.self.now c.args.n c.args.now c.requires.due c.requires.sound }

pub keep_branch-requires : goal.keep_branch-requires
keep_branch-requires g c =
    let below : c.args.n < length c.args.self.now.branches = branch_below c.args.self.now c.args.n c.part.result.now c.part.ensures in
    let longer : length c.args.self.now.branches ≤ length c.post_bare.new.self.branches = c.in_ok-post_bare.ensures.longer in
    record { there = omega (arith, below, longer) }

pub end_branch-requires : goal.end_branch-requires
end_branch-requires g c =
    record {
      there = fired_is_sent c.args.self.now c.args.n c.args.now c.requires.due;
      plain = refl;
      fits = fired_fits c.args.self.now c.args.n c.args.now c.requires.due c.requires.sound;
    }

pub returns-then-not-is_trying-clause-ok : goal.returns-then-not-is_trying-clause-ok
returns-then-not-is_trying-clause-ok g c =
    let e : row_passes is_trying c.args.self.now c.args.n ≡ false = let a = c.is_trying.ensures in let b = c.if-not-is_trying.true in cc in
    timer_c_cancels c.args.self.now c.keep_branch.new.self c.args.n c.args.now c.part.result.now c.part.ensures c.on_event-client.result.0 c.on_event-client.ensures.after c.post_bare.new.self e c.in_ok-post_bare.ensures.ok c.keep_branch.ensures

pub returns-clause-ok : goal.returns-clause-ok
returns-clause-ok g c =
    let e : row_passes is_trying c.args.self.now c.args.n ≡ true = let a = c.is_trying.ensures in let b = c.if-not-is_trying.false in cc in
    timer_c_ends c.args.self.now c.end_branch.new.self c.args.n c.args.now c.part.result.now c.part.ensures c.on_event-client.result.0 c.on_event-client.ensures.after e c.in_ok-end_branch.ensures.ok

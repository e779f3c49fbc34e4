use Rattle.fork_program.proofs.Common.{◌≡◌, map, ap, refl, event_of, kind_of, Script, IsForkReplay, common_steps, arith}
use Rattle.std.proofs.lemmas.Result.{err_from_is_err_and}
use Rattle.fork_program.proofs.Headline.{tells_one_final, tells_no_final}
use Rattle.fork_program.proofs.Outcomes.{is_replay}
use Rattle.fork_program.proofs.Refusing.{fork_refused, fork_taken}
use Rattle.fork_program.proofs.replay.replay.Goals as goal

pub returns-in_err-context-clause-fault : goal.returns-in_err-context-clause-fault
returns-in_err-context-clause-fault g c =
    let p = err_from_is_err_and c.from_residual-in_err-context.result c.from_residual-in_err-context.ensures.1 in
    let seen = ap (λ (s : Script). s.targets) c.script.view_is in
    let same : c.args.script.targets ≡ c.script.inside.targets.items = cc seen in
    rw (p.1, p.2) (fork_refused c.args.script c.script.inside.targets.items c.in_err-context.field-0.0 same c.in_err-context.ensures.none c.in_err-context.ensures.many c.in_err-context.ensures.twice)

pub returns-clause-ok : goal.returns-clause-ok
returns-clause-ok g c =
    let inside = c.script.inside in
    let shown : Script = record { kind = kind_of inside.kind; rules = inside.rules; targets = inside.targets.items; events = map event_of inside.events.items } in
    let seen : c.args.script ≡ shown = cc c.script.view_is in
    let right : IsForkReplay shown c.append_ending.new.text.items =
    record {
      set_up = fork_taken shown inside.targets.items c.in_ok-context.context refl c.in_ok-context.ensures.none c.in_ok-context.ensures.many c.in_ok-context.ensures.twice;
      replayed = is_replay shown _ _ _ _ _ _ c.in_ok-context.ensures.opened c.new-text.ensures.items c.in_ok-append_opening.ensures.appended c.in_ok-append_outcomes.ensures c.in_ok-append_ending.ensures.appended;
    }
    in
    grind (arith, common_steps)

pub returns-clause-one_final : goal.returns-clause-one_final
returns-clause-one_final g c = tells_one_final c.the_choice_is_listed_first.ensures c.args.script c.append_ending.new.text.items (returns-clause-ok g c)

pub returns-clause-no_final : goal.returns-clause-no_final
returns-clause-no_final g c =
    tells_no_final c.exactly_one_final_of_context.ensures.none_before c.exactly_one_final_of_context.ensures.none_beside_success c.args.script c.append_ending.new.text.items (returns-clause-ok g c)

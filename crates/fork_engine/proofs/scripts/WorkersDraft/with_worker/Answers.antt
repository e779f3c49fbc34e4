use Rattle.std.proofs.Common.{◌≡◌, ◌∙◌, ◌<◌, ◌≤◌, List, suc, true, length, map, sym, ap, arith, []}
use Rattle.std.proofs.lemmas.List.{length-map}
use Rattle.fork_model.specs.Event.{Event}
use Rattle.context_values.specs.EventView.{event_of}
use Rattle.fork_rank.specs.KindView.{kind_of}
use Rattle.fork_program.specs.Script as plain
use Rattle.fork_program.proofs.laws.DraftedLines.{in_phase}
use Rattle.fork_engine.specs.Workers.{most_workers}
use Rattle.fork_engine.specs.inner.Reading.{Draft, is_at_work}
use Rattle.fork_engine.proofs.DraftedWorkers.{draft_of, none_begins, one_begins}
use Rattle.fork_engine.proofs.scripts.WorkersDraft.with_worker.Goals as goal

pub returns-then-len-ge-MOST_WORKERS : goal.returns-then-len-ge-MOST_WORKERS
returns-then-len-ge-MOST_WORKERS g c =
    let before : List (List Event) = map (λ s. map event_of s.items) c.self.inside.before.items in
    let draft : Draft = draft_of (in_phase c.last.inside.phase c.last.inside.script) before in
    let seen : draft ≡ c.args.self = ap (λ (last : plain.Draft). draft_of last before) c.last.view_is ∙ c.self.view_is in
    let work : is_at_work c.last.inside.phase ≡ true = sym c.is_at_work.ensures ∙ c.if-not-is_at_work.false in
    let counted : length before ≡ length c.self.inside.before.items = length-map c.self.inside.before.items _ in
    let many : most_workers ≤ suc (length before) = omega (arith, counted, c.len.ensures) in
    none_begins draft c.args.self seen work many

pub returns : goal.returns
returns g c =
    let before : List (List Event) = map (λ s. map event_of s.items) c.self.inside.before.items in
    let script : plain.Script = record { kind = kind_of c.script.inside.kind; rules = c.script.inside.rules; targets = c.script.inside.targets.items; events = map event_of c.script.inside.events.items } in
    let draft : Draft = draft_of (in_phase c.last.inside.phase script) before in
    let seen : draft ≡ c.args.self =
    ap (λ (s : plain.Script). draft_of (in_phase c.last.inside.phase s) before) c.script.view_is
    ∙ ap (λ (last : plain.Draft). draft_of last before) c.last.view_is
    ∙ c.self.view_is
    in
    let work : is_at_work c.last.inside.phase ≡ true = sym c.is_at_work.ensures ∙ c.if-not-is_at_work.false in
    let counted : length before ≡ length c.self.inside.before.items = length-map c.self.inside.before.items _ in
    let few : suc (length before) < most_workers = omega (arith, counted, c.len.ensures) in
    let none : map event_of c.new.result.items ≡ [] = ap (map event_of) c.new.ensures.items in
    one_begins draft c.args.self _ _ seen work few none c.in_ok-before.ensures.events

use Rattle.std.proofs.Common.{◌≡◌, ◌∙◌, subst, map, IfOk, IfErr}
use Rattle.fork_model.specs.History.{opening}
use Rattle.fork_rank.specs.KindView.{kind_of}
use Rattle.context_values.specs.EventView.{event_of}
use Rattle.fork_engine.specs.Interleaving.{IsInterleaving}
use Rattle.fork_engine.specs.Faults.{IsTrueFault}
use Rattle.fork_engine.specs.Plain.{EndsWithLeast}
use Rattle.fork_engine.proofs.Faulty.{no_new}
use Rattle.fork_engine.proofs.Ends.{ends_with_least, both_ok}
use Rattle.fork_engine.proofs.run.drive.Goals as goal

pub returns-clause-opened : goal.returns-clause-opened
returns-clause-opened g c =
    subst (λ ts. IfOk c.compared.result (λ book. book.opening ≡ opening (kind_of c.args.kind) c.args.rules ts)) (c.deref.ensures.value ∙ c.in_ok-run.ensures.targets) c.compared.ensures.opened

pub returns-clause-mixed : goal.returns-clause-mixed
returns-clause-mixed g c =
    subst (λ ss. IfOk c.compared.result (λ book. IsInterleaving (map (λ s. map event_of s.items) ss) book.history)) c.as_slice-2.ensures.value c.compared.ensures.mixed

pub returns-clause-none : goal.returns-clause-none
returns-clause-none g c = (λ h. absurd (no_new _ c.compared.result c.compared.ensures.new h), λ e. absurd (c.in_ok-run.ensures.none.1 e))

pub returns-clause-many : goal.returns-clause-many
returns-clause-many g c = (λ h. absurd (no_new _ c.compared.result c.compared.ensures.new h), λ e. absurd (c.in_ok-run.ensures.many.1 e))

pub returns-clause-twice : goal.returns-clause-twice
returns-clause-twice g c = (λ h. absurd (no_new _ c.compared.result c.compared.ensures.new h), λ e. absurd (c.in_ok-run.ensures.twice.1 e))

pub returns-clause-memory : goal.returns-clause-memory
returns-clause-memory g c = λ h. no_new _ c.compared.result c.compared.ensures.new h

pub returns-clause-fault : goal.returns-clause-fault
returns-clause-fault g c =
    subst (λ ss. IfErr c.compared.result (IsTrueFault (kind_of c.args.kind) c.args.rules c.args.targets.items (map (λ s. map event_of s.items) ss))) c.as_slice-2.ensures.value
    (subst (λ ts. IfErr c.compared.result (IsTrueFault (kind_of c.args.kind) c.args.rules ts (map (λ s. map event_of s.items) c.as_slice-2.result.now))) (c.deref.ensures.value ∙ c.in_ok-run.ensures.targets) c.compared.ensures.fault)

pub returns-clause-plain : goal.returns-clause-plain
returns-clause-plain g c =
    both_ok (λ book. book.opening ≡ opening (kind_of c.args.kind) c.args.rules c.args.targets.items)
    (λ book. IsInterleaving (map (λ s. map event_of s.items) c.args.scripts.items) book.history)
    (EndsWithLeast c.args.rules c.args.targets.items (map (λ s. map event_of s.items) c.args.scripts.items))
    c.compared.result (returns-clause-opened g c) (returns-clause-mixed g c)
    (λ book opens mixed. ends_with_least c.order_does_not_matter.ensures.end c.order_does_not_matter.ensures.chosen (kind_of c.args.kind) c.args.rules c.args.targets.items _ book opens mixed)

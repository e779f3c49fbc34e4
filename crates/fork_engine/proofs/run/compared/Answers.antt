use Rattle.std.proofs.Common.{sym, subst, inl, inr}
use Rattle.fork_rank.specs.KindView.{kind_of}
use Rattle.fork_engine.specs.Interleaving.{IsInterleaving}
use Rattle.fork_engine.proofs.run.compared.Goals as goal
use Rattle.fork_engine.proofs.run.compared.Goals.{else-ours-via-then-ours+else-mixed, else-ours-via-else-ours}

pub returns-then-mixed-clause-mixed : goal.returns-then-mixed-clause-mixed
returns-then-mixed-clause-mixed g c = subst (IsInterleaving _) c.history.ensures (c.is_interleaving-mixed.ensures.0 (cc))

pub returns-clause-fault : goal.returns-clause-fault
returns-clause-fault g c = elim c.else-ours.branch [
  | else-ours-via-then-ours+else-mixed w ↦
      inr (λ m. absurd (let t = c.is_interleaving-mixed.ensures.1 (subst (IsInterleaving _) (sym c.history.ensures) m) in let f = w.if-mixed.false in cc))
  | else-ours-via-else-ours w ↦
      inl (kind_of c.args.held.kind, c.args.held.rules, c.args.held.targets.items, c.args.held.opens, λ same. absurd (let t = c.is_ours-ours.ensures.1 same in let f = w.if-ours.false in cc))
]

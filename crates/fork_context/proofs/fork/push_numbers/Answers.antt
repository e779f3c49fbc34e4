use Rattle.fork_context.proofs.Common.{arith, ◌+◌, ◌++◌, ℕ, [], ◌∷◌, ap, ◌∙◌, sym, List, common_steps, length-append, numbers_from}
use Rattle.std.proofs.Common.{append_assoc, append-nil}
use Rattle.fork_context.proofs.Numbers.{length_numbers_from, numbers_from_more}
use Rattle.fork_context.proofs.fork.push_numbers.Goals as goal

pub loop-n-init : goal.loop-n-init
loop-n-init g c = (sym (append-nil c.args.numbers.now.items), c.requires.room)

pub push_reserved-requires : goal.push_reserved-requires
push_reserved-requires g c = grind (arith, common_steps, length_numbers_from, length-append)

pub loop-n-preserved : goal.loop-n-preserved
loop-n-preserved g c = (
  c.push_reserved.ensures.items
      ∙ ap (λ (ns : List ℕ). ns ++ (c.args.first + c.loop-n.n) ∷ []) c.loop-n.invariant.0
      ∙ append_assoc c.args.numbers.now.items (numbers_from c.args.first c.loop-n.n) ((c.args.first + c.loop-n.n) ∷ [])
      ∙ ap (λ (ns : List ℕ). c.args.numbers.now.items ++ ns) (sym (numbers_from_more c.args.first c.loop-n.n)),
  omega arith,
)

use Rattle.fork_context.proofs.Common.{arith, ◌≡◌, take, true, false, refl}
use Rattle.fork_context.proofs.KeySteps.{has_key, twice_at, none_more, none_twice}
use Rattle.fork_context.proofs.opening.has_twice.Goals as goal

pub returns-then-has_key : goal.returns-then-has_key
returns-then-has_key g c =
    let targets = c.args.targets.now in
    let e : has_key c.index-targets-n.result.key (take c.loop-n.n targets) ≡ true = grind arith in
    (λ _. twice_at targets c.loop-n.n c.index-targets-n.result (omega arith) c.index-targets-n.is e, λ _. refl)

pub loop-n-preserved : goal.loop-n-preserved
loop-n-preserved g c =
    let targets = c.args.targets.now in
    let e : has_key c.index-targets-n.result.key (take c.loop-n.n targets) ≡ false = grind arith in
    none_more targets c.loop-n.n c.index-targets-n.result (omega arith) c.index-targets-n.is e c.loop-n.invariant

pub returns : goal.returns
returns g c =
    (λ h. absurd cc, λ twice. absurd (none_twice c.args.targets.now c.loop-n.n (omega arith) c.loop-n.invariant twice))

use Rattle.std.proofs.Common.{◌≡◌, ◌+◌, ◌-◌, ℕ, suc, sym, ap, ◌∙◌, arith}
use Rattle.bindings.specs.Bindings.{fewer}
use Rattle.bindings.specs.Seen.{id_of}
use Rattle.bindings.proofs.changes.let_go.Goals as goal

pub loop-preserved : goal.loop-preserved
loop-preserved g c =
    let id = id_of c.args.request.now in
    let left = c.len-end.result - (c.loop.counter + 1) in
    let step : c.len-end.result - c.loop.counter ≡ suc left = omega (arith, c.loop-test.true) in
    ap (fewer id left) c.let_one_go.ensures ∙ sym (ap (λ (n : ℕ). fewer id n c.loop.bindings.items) step) ∙ c.loop.invariant

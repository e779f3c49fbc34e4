use Rattle.fork_listing.proofs.Common.{◌≡◌, ◌<◌, ◌∙◌, true, false, Some, length, sym, ap, arith, refl, slice_get, option_and_then, false≢true, arrival_of, ended_at, slice_get_read, ListedTarget, IsPlaced, common_steps}
use Rattle.fork_listing.proofs.Placing.{holds_all, near_of, fresh_of, placed_more}
use Rattle.fork_listing.proofs.Arrivals.{holds_more, fresh_if}
use Rattle.fork_listing.proofs.targets.first_misplaced.Goals as goal

pub returns-then-not-is_near : goal.returns-then-not-is_near
returns-then-not-is_near g c =
    let targets = c.args.targets.now in
    let n = c.loop-n.n in
    let t = c.index-targets-n.result in
    let lt : n < length targets = omega arith in
    let here : slice_get targets n ≡ Some t = slice_get_read targets (length targets) n t refl lt c.index-targets-n.is in
    let no : c.is_near.result ≡ false = grind arith in
    (lt, c.loop-n.invariant.0, λ placed. false≢true (sym no ∙ c.is_near.ensures.1 (near_of c.args.rules.now.depth targets n t (placed t here))))

pub returns-then-not-branch : goal.returns-then-not-branch
returns-then-not-branch g c =
    let targets = c.args.targets.now in
    grind (arith, common_steps, slice_get_read, option_and_then, fresh_if, false≢true, fresh_of)

pub loop-n-preserved : goal.loop-n-preserved
loop-n-preserved g c =
    let targets = c.args.targets.now in
    let n = c.loop-n.n in
    let t = c.index-targets-n.result in
    let lt : n < length targets = omega arith in
    let here : slice_get targets n ≡ Some t = slice_get_read targets (length targets) n t refl lt c.index-targets-n.is in
    let ends : ended_at targets n ≡ c.arrival_of.result = ap (option_and_then (λ (x : ListedTarget). arrival_of x.end)) here ∙ sym c.arrival_of.ensures in
    let near : c.is_near.result ≡ true = grind arith in
    let new : c.in_ok-note.field-0 ≡ true = grind arith in
    let fresh = fresh_if c.loop-n.arrivals c.note.new.arrivals targets n c.arrival_of.result c.in_ok-note.field-0 ends c.in_ok-note.ensures c.loop-n.invariant.1 in (
      placed_more c.args.rules.now.depth targets n t here (c.is_near.ensures.0 near) (fresh.0 new) c.loop-n.invariant.0,
      holds_more c.loop-n.arrivals c.note.new.arrivals targets n c.arrival_of.result c.in_ok-note.field-0 ends c.in_ok-note.ensures c.loop-n.invariant.1,
    )

pub returns : goal.returns
returns g c = holds_all (IsPlaced c.args.rules.now.depth c.args.targets.now) c.loop-n.n (length c.args.targets.now) (omega arith) c.loop-n.invariant.0

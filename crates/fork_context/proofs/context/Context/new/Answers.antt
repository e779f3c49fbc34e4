use Rattle.fork_context.proofs.Common.{◌≡◌, ◌≢◌, ◌≤◌, ◌∙◌, ℕ, List, [], length, arith, ap, sym, subst, Table, most_targets, kind_of, AreRules, IsKept}
use Rattle.std.proofs.lemmas.Bool.{eqb-false}
use Rattle.fork_rank.specs.Preferred.{IsPreferredList}
use Rattle.fork_context.proofs.SoundSteps.{kept_opening}
use Rattle.fork_context.proofs.context.Context.new.Goals as goal

pub invariant_of-result : goal.invariant_of-result
invariant_of-result g c =
    let all : length c.deref-2.result.now ≡ length c.args.targets.items = ap length c.deref-2.ensures.value in
    let few : length c.deref-2.result.now ≤ most_targets = omega arith in
    let some : c.deref-2.result.now ≢ [] =
    λ none.
    let zero : length c.args.targets.items ≡ 0 = ap length (sym c.deref-2.ensures.value ∙ none) in
    eqb-false c.args.targets.len 0 (sym c.if-is_empty.ensures) (c.args.targets.ok.0 ∙ zero) in
    let P : List ℕ → Type 0 = IsPreferredList in
    let D : ℕ → Type 0 = λ n. n ≤ most_targets in
    let set : AreRules c.args.rules =
    record {
      preferred = subst P (c.statuses-statuses.ensures.value ∙ c.preferred-preferred.ensures) c.statuses-statuses.ensures.sound;
      depth = subst D c.depth-depth.ensures.value c.depth-depth.ensures.range;
    } in
    let Kept : Table → Type 0 = λ t. IsKept t 0 in
    subst Kept (sym c.in-Ok.ensures.value) (kept_opening (kind_of c.args.kind) c.args.rules c.deref-2.result.now some few set c.in-Ok.ensures.range)

pub returns-in_default-clause-twice : goal.returns-in_default-clause-twice
returns-in_default-clause-twice g c =
    let told = rw c.deref.ensures.value at c.if-has_twice.ensures in
    (λ h. absurd cc, λ h. absurd (let e = told.1 h.1 in cc))

pub returns-clause-twice : goal.returns-clause-twice
returns-clause-twice g c =
    let told = rw c.deref.ensures.value at c.if-has_twice.ensures in
    (λ h. absurd cc, λ h. absurd (let e = told.1 h.1 in cc))

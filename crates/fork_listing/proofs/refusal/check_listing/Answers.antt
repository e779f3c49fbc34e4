use Rattle.fork_listing.proofs.Common.{◌≡◌, ◌∙◌, ◌+◌, ℕ, false, true, List, length, Option, Err, sym, ap, subst, arith, false≢true, Rules, BestRef, IsBest, ListedTarget, Ranked, Listing, IsFirstToFail, IsPlaced, IsOrdered, IsListed, IsRight, IsVerdictOf}
use Rattle.fork_listing.proofs.Common.{rows_of, common_steps}
use Rattle.fork_listing.specs.declared.refusal.CheckFault.TheVariants.{Tree, Order, Absent, FinalLine}
use Rattle.fork_listing.proofs.Finals.{is_chosen, not_chosen}
use Rattle.fork_listing.proofs.refusal.check_listing.Goals as goal

branches : (depth : ℕ) (ts us : List ListedTarget) (o p : Option ℕ) → ts ≡ us → o ≡ p → IsFirstToFail (IsPlaced depth ts) (length ts) o → IsFirstToFail (IsPlaced depth us) (length us) p
branches depth ts us o p t e h = grind arith

order : (r : Rules) (ts us : List ListedTarget) (rs qs : List Ranked) (o p : Option ℕ) → ts ≡ us → rs ≡ qs → o ≡ p → IsFirstToFail (IsOrdered r ts rs) (length rs) o → IsFirstToFail (IsOrdered r us qs) (length qs) p
order r ts us rs qs o p t q e h = grind arith

listed : (ts us : List ListedTarget) (rs qs : List Ranked) (o p : Option ℕ) → ts ≡ us → rs ≡ qs → o ≡ p → IsFirstToFail (IsListed ts rs) (length ts) o → IsFirstToFail (IsListed us qs) (length us) p
listed ts us rs qs o p t q e h =
    let P : List ListedTarget → Type 0 = λ x. IsFirstToFail (IsListed x qs) (length x) p in
    grind (arith, common_steps)

best_of : (r : Rules) (ts us : List ListedTarget) (best : Option BestRef) → ts ≡ us → IsBest r (rows_of ts) best → IsBest r (rows_of us) best
best_of r ts us best t = subst (λ (x : List ListedTarget). IsBest r (rows_of x) best) t

pub returns-in-Some : goal.returns-in-Some
returns-in-Some g c =
    let P : Listing → Type 0 = λ l. IsVerdictOf l (Err (Tree (c.first_target-line.result + c.in-Some.n))) in
    subst P c.listing.view_is (
      c.in-Some.n,
      branches c.listing.inside.rules.depth _ _ _ _ c.as_slice-targets.ensures.value c.in-Some.is c.in_ok-n.ensures,
      ap (λ k. k + c.in-Some.n) c.first_target-line.ensures,
    )

pub returns-in-Some-first_misordered : goal.returns-in-Some-first_misordered
returns-in-Some-first_misordered g c =
    let P : Listing → Type 0 = λ l. IsVerdictOf l (Err (Order (c.first_target-line.result + c.from.result + c.in-Some-first_misordered.k))) in
    subst P c.listing.view_is (
      branches c.listing.inside.rules.depth _ _ _ _ c.as_slice-targets.ensures.value c.in_default.is c.in_ok-n.ensures,
      c.in-Some-first_misordered.k,
      order c.listing.inside.rules _ _ _ _ _ _ c.as_slice-targets.ensures.value c.as_slice-ranks.ensures.value c.in-Some-first_misordered.is c.first_misordered.ensures,
      omega (arith, c.first_target-line.ensures, c.from.ensures),
    )

pub returns-in-Some-2 : goal.returns-in-Some-2
returns-in-Some-2 g c =
    let P : Listing → Type 0 = λ l. IsVerdictOf l (Err (Absent c.in-Some-2.n)) in
    subst P c.listing.view_is (
      branches c.listing.inside.rules.depth _ _ _ _ c.as_slice-targets.ensures.value c.in_default.is c.in_ok-n.ensures,
      order c.listing.inside.rules _ _ _ _ _ _ c.as_slice-targets.ensures.value c.as_slice-ranks.ensures.value c.in_default-first_misordered.is c.first_misordered.ensures,
      listed _ _ _ _ _ _ c.as_slice-targets.ensures.value c.as_slice-ranks.ensures.value c.in-Some-2.is c.in_ok-n-2.ensures,
    )

pub returns-then-not-is_final_of : goal.returns-then-not-is_final_of
returns-then-not-is_final_of g c =
    let P : Listing → Type 0 = λ l. IsVerdictOf l (Err FinalLine) in
    let no : c.is_final_of.result ≡ false = grind arith in
    subst P c.listing.view_is (
      branches c.listing.inside.rules.depth _ _ _ _ c.as_slice-targets.ensures.value c.in_default.is c.in_ok-n.ensures,
      order c.listing.inside.rules _ _ _ _ _ _ c.as_slice-targets.ensures.value c.as_slice-ranks.ensures.value c.in_default-first_misordered.is c.first_misordered.ensures,
      listed _ _ _ _ _ _ c.as_slice-targets.ensures.value c.as_slice-ranks.ensures.value c.in_default-2.is c.in_ok-n-2.ensures,
      not_chosen c.listing.inside.rules c.listing.inside.targets.items c.in_ok-best.best c.listing.inside.last (best_of _ _ _ _ c.as_slice-targets.ensures.value c.in_ok-best.ensures)
          (λ e. false≢true (sym no ∙ c.is_final_of.ensures.1 e)),
    )

pub returns : goal.returns
returns g c =
    let yes : c.is_final_of.result ≡ true = grind arith in
    let P : Listing → Type 0 = λ l. IsRight l in (
      subst P c.listing.view_is (
        branches c.listing.inside.rules.depth _ _ _ _ c.as_slice-targets.ensures.value c.in_default.is c.in_ok-n.ensures,
        order c.listing.inside.rules _ _ _ _ _ _ c.as_slice-targets.ensures.value c.as_slice-ranks.ensures.value c.in_default-first_misordered.is c.first_misordered.ensures,
        listed _ _ _ _ _ _ c.as_slice-targets.ensures.value c.as_slice-ranks.ensures.value c.in_default-2.is c.in_ok-n-2.ensures,
        is_chosen c.listing.inside.rules c.listing.inside.targets.items c.in_ok-best.best c.listing.inside.last (best_of _ _ _ _ c.as_slice-targets.ensures.value c.in_ok-best.ensures)
            (c.is_final_of.ensures.0 yes),
      ),
      (λ i. record {
        targets = (c.listing.view_is i).count;
        status = (c.code.ensures.value ∙ ap (λ (l : Listing). l.last.status) c.listing.view_is) i;
        no = (c.listing.view_is i).last.number;
      }),
    )

-- Each step of an inbox keeps its rule.
use Rattle.std.proofs.Common.{◌≡◌, ◌≢◌, ℕ, zero, suc, true, false, true≢false, List, [], ◌∷◌, ◌++◌, length, set, sym, refl, ap, ◌∙◌, subst, ⊎_elim, append_assoc}
use mathlib.Core.Option.{some, some-ne-none}
use lib.ListN.{get_elem?}
use Rattle.crossbeam_channel.specs.Fifo.{Pushes, Pops, Forks, Merges, Learns}
use Rattle.atomic_table.proofs.Lists.{at_set, at_snoc}
use Rattle.call_table.specs.declared.inbox.Known.{Known}
use Rattle.call_table.specs.Inbox.{known, KnowsAll, IsInOrder}

module _ {J : Type 0} where
  -- what was not there before, and is there behind a list, stands at its end
  at_end : (passes : List (Known J)) (added pass : Known J) (at : ℕ) → get_elem? passes at ≢ some pass → get_elem? (passes ++ added ∷ []) at ≡ some pass → at ≡ length passes
  at_end [] added pass zero new there = refl
  at_end [] added pass (suc at) new there = absurd (some-ne-none pass (sym there))
  at_end (first ∷ rest) added pass zero new there = absurd (new there)
  at_end (first ∷ rest) added pass (suc at) new there = ap suc (at_end rest added pass at new there)

  abbrev Each : (ℕ → Known J → Type 0) → List (Known J) → Type 0
  Each P passes = (at : ℕ) (pass : Known J) → get_elem? passes at ≡ some pass → P at pass

  -- one pass changes, and the others stay
  each_set : (P : ℕ → Known J → Type 0) (passes : List (Known J)) (at : ℕ) (new : Known J) → P at new → ((other : ℕ) (pass : Known J) → other ≢ at → get_elem? passes other ≡ some pass → P other pass) → Each P (set passes at new)
  each_set P passes at new mine others other pass there = ⊎_elim
      (λ (here : (other ≡ at) × (new ≡ pass)). subst (λ (both : ℕ × Known J). P both.0 both.1) (λ i. (sym here.0 i, here.1 i)) mine)
      (λ (away : (other ≢ at) × (get_elem? passes other ≡ some pass)). others other pass away.0 away.1)
      (at_set passes at other new pass there)

  pub begins : IsInOrder {J = J} [] (known true true [] [] ∷ [])
  begins = record {
    giver = 0;
    receiver = 0;
    given = [];
    received = [];
    order = refl;
    known = each_set (KnowsAll 0 0 [] []) (known true true [] [] ∷ []) 0 (known true true [] [])
        (record { gives = λ _. (refl, refl); receives = λ _. (refl, refl) })
        (λ at pass other there. absurd (other (at_end [] _ pass at (λ x. some-ne-none pass (sym x)) there)));
  }

  pub sends : (n at : ℕ) (v : Known J) (x : J) → v.gives ≡ true → Pushes IsInOrder n at v x (λ w. w ≡ known v.gives v.receives (v.given ++ x ∷ []) v.received)
  sends n at v x may held passes _ rule there =
      let new : Known J = known v.gives v.receives (v.given ++ x ∷ []) v.received in
      let mine = rule.known at v there in
      let given = rule.given ++ x ∷ [] in (
        new,
        record {
          giver = rule.giver;
          receiver = rule.receiver;
          given = given;
          received = rule.received;
          order = ap (λ l. l ++ x ∷ []) rule.order ∙ append_assoc rule.received held (x ∷ []);
          known = each_set (KnowsAll rule.giver rule.receiver given rule.received) passes at new
              (record { gives = λ _. ((mine.gives may).0, ap (λ l. l ++ x ∷ []) (mine.gives may).1); receives = mine.receives })
              (λ other pass apart e. record { gives = λ p. absurd (apart (((rule.known other pass e).gives p).0 ∙ sym (mine.gives may).0)); receives = (rule.known other pass e).receives });
        },
        refl,
      )

  pub gets : (at : ℕ) (v : Known J) → v.receives ≡ true
      → Pops IsInOrder at v (λ x w. (w ≡ known v.gives v.receives v.given (v.received ++ x ∷ [])) × (v.gives ≡ true → (rest : List J) × (v.given ≡ v.received ++ x ∷ rest)))
  gets at v may x held passes rule there =
      let new : Known J = known v.gives v.receives v.given (v.received ++ x ∷ []) in
      let mine = rule.known at v there in
      let received = rule.received ++ x ∷ [] in (
        new,
        record {
          giver = rule.giver;
          receiver = rule.receiver;
          given = rule.given;
          received = received;
          order = rule.order ∙ sym (append_assoc rule.received (x ∷ []) held);
          known = each_set (KnowsAll rule.giver rule.receiver rule.given received) passes at new
              (record { gives = mine.gives; receives = λ _. ((mine.receives may).0, ap (λ l. l ++ x ∷ []) (mine.receives may).1) })
              (λ other pass apart e. record { gives = (rule.known other pass e).gives; receives = λ p. absurd (apart (((rule.known other pass e).receives p).0 ∙ sym (mine.receives may).0)) });
        },
        (refl, λ gives. (held, (mine.gives gives).1 ∙ rule.order ∙ ap (λ l. l ++ x ∷ held) (sym (mine.receives may).1))),
      )

  pub forks : (at : ℕ) (v : Known J) → v.gives ≡ true → v.receives ≡ true → Forks IsInOrder at v (known true false v.given []) (known false true [] v.received)
  forks at v gives receives held passes rule there =
      let left : Known J = known true false v.given [] in
      let right : Known J = known false true [] v.received in
      let mine = rule.known at v there in
      let set_passes : List (Known J) = set passes at left in
      let P : ℕ → Known J → Type 0 = λ other pass. (pass.gives ≡ true → (other ≡ rule.giver) × (pass.given ≡ rule.given)) × (pass.receives ≢ true) in
      let old : Each P set_passes = each_set P passes at left ((λ _. mine.gives gives), λ p. true≢false (sym p))
      (λ other pass apart e. ((rule.known other pass e).gives, λ p. apart (((rule.known other pass e).receives p).0 ∙ sym (mine.receives receives).0))) in
      record {
        giver = rule.giver;
        receiver = length set_passes;
        given = rule.given;
        received = rule.received;
        order = rule.order;
        known = λ other pass e. ⊎_elim
            (λ there. record { gives = (old other pass there).0; receives = λ p. absurd ((old other pass there).1 p) })
            (λ (is : right ≡ pass). record {
              gives = λ p. absurd (true≢false (sym (ap (λ (y : Known J). y.gives) is ∙ p)));
              receives = λ p. (at_end set_passes right pass other (λ there. (old other pass there).1 p) e, ap (λ (y : Known J). y.received) (sym is) ∙ (mine.receives receives).1);
            })
            (at_snoc set_passes right pass other e);
      }

  pub merges : (at : ℕ) (v : Known J) (other : ℕ) (u : Known J) → v.gives ≡ true → u.receives ≡ true
      → Merges IsInOrder at v other u (known true true v.given u.received) (known false false [] [])
  merges at v other u gives receives held passes rule there apart there' =
      let both : Known J = known true true v.given u.received in
      let mine = rule.known at v there in
      let set_passes : List (Known J) = set passes at both in
      let was : get_elem? passes other ≡ some u = ⊎_elim (λ x. absurd (apart x.0)) (λ x. x.1) (at_set passes at other both u there') in
      let theirs = (rule.known other u was).receives receives in
      let P : ℕ → Known J → Type 0 = λ n pass. n ≢ other → KnowsAll rule.giver at rule.given rule.received n pass in
      let now : Each P set_passes = each_set P passes at both
      (λ _. record { gives = λ _. mine.gives gives; receives = λ _. (refl, theirs.1) })
      (λ n pass _ e away. record { gives = (rule.known n pass e).gives; receives = λ p. absurd (away (((rule.known n pass e).receives p).0 ∙ sym theirs.0)) }) in
      record {
        giver = rule.giver;
        receiver = at;
        given = rule.given;
        received = rule.received;
        order = rule.order;
        known = each_set (KnowsAll rule.giver at rule.given rule.received) set_passes other (known false false [] [])
            (record { gives = λ p. absurd (true≢false (sym p)); receives = λ p. absurd (true≢false (sym p)) })
            (λ n pass away e. now n pass e away);
      }

  pub totals : (at : ℕ) (v : Known J) → Learns IsInOrder at v (λ held. v.gives ≡ true → v.receives ≡ true → v.given ≡ v.received ++ held)
  totals at v held passes rule there gives receives =
      let mine = rule.known at v there in
      (mine.gives gives).1 ∙ rule.order ∙ ap (λ l. l ++ held) (sym (mine.receives receives).1)

  pub nothing_learned : (at : ℕ) (v : Known J) → Learns IsInOrder at v (λ held. Unit {0})
  nothing_learned at v held passes rule there = tt

use Rattle.fork_tree.proofs.Common.{◌≡◌, ◌+◌, ℕ, true, false, [], ◌∷◌, ◌++◌, length, length-append, Option, arith, ap, subst, ◌∙◌, IsSome, rows_of, AreKnown, AreMet, FindsOnWay, inl, inr, nil_from_length, cases_lt}
use Rattle.std.specs.Option.{option_to_list}
use Rattle.fork_tree.proofs.Ways.{known_pop, met_pop, none_met}
use Rattle.fork_tree.proofs.series.+next_ready.Goals as goal

pub returns-in_default-clause-found : goal.returns-in_default-clause-found
returns-in_default-clause-found g t c =
    let none : length c.args.recent.now.items ≡ 0 = elim (cases_lt 0 (length c.args.recent.now.items)) [
      | inl less ↦ (let no : false ≡ true = subst (λ (o : Option (Option ℕ)). IsSome o) c.in_default.is (c.pop.ensures.variant.1 (omega (arith, less)))
          in absurd cc)
      | inr low ↦ omega (arith, low)
    ] in
    none_met (rows_of c.args.places.now c.args.root.now)
    (subst (AreMet (rows_of c.args.places.now c.args.root.now)) (nil_from_length c.args.recent.now.items none) c.requires.met)

pub ready_on_way-requires-clause-known : goal.ready_on_way-requires-clause-known
ready_on_way-requires-clause-known g t c = grind (arith, known_pop)

pub next_ready-requires : goal.next_ready-requires
next_ready-requires g t c κs within =
    let items : c.args.recent.now.items ≡ c.pop.new.self.items ++ c.in-Some.under ∷ [] = c.pop.ensures.items ∙ ap (λ (o : Option (Option ℕ)). c.pop.new.self.items ++ option_to_list o) c.in-Some.is in
    let size : length c.args.recent.now.items ≡ length c.pop.new.self.items + 1 = ap length items ∙ length-append c.pop.new.self.items (c.in-Some.under ∷ []) in (
      omega (arith, size),
      (
        within,
        (
          c.requires.shape,
          (
            (known_pop (length c.args.places.now) c.pop.new.self.items c.in-Some.under (subst (AreKnown (length c.args.places.now)) items c.requires.known)).0,
            (met_pop (rows_of c.args.places.now c.args.root.now) c.pop.new.self.items c.in-Some.under (subst (AreMet (rows_of c.args.places.now c.args.root.now)) items c.requires.met)
                (subst (FindsOnWay (rows_of c.args.places.now c.args.root.now) c.in-Some.under) c.in-None.is c.ready_on_way.ensures)),
          ),
        ),
      ),
    )

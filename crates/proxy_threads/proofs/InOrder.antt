-- What is taken is the front of what was handed over.
use Rattle.std.proofs.Common.{◌≡◌, List, [], ◌∷◌, ◌++◌, ap, sym, ◌∙◌, append-nil, append_assoc}
use Rattle.proxy_threads.specs.Groups.{GroupState}
use Rattle.proxy_threads.specs.Runs.{Beside, HandedOver, IsRun, Step, Taken, handed_over, taken}

module _ {T : Type 0} where
  pub in_order : (old new : GroupState T) (steps : List (Step T)) → IsRun old steps new → old.waiting ++ handed_over steps ≡ taken steps ++ new.waiting
  in_order old new [] same = append-nil old.waiting ∙ ap (λ (g : GroupState T). g.waiting) (sym same)
  in_order old new (HandedOver job ∷ steps) (between, is, behind) =
      sym (append_assoc old.waiting (job ∷ []) (handed_over steps))
      ∙ ap (λ (g : GroupState T). g.waiting ++ handed_over steps) (sym is)
      ∙ in_order between new steps behind
  in_order old new (Taken job ∷ steps) (between, is, behind) =
      ap (λ (g : GroupState T). g.waiting ++ handed_over steps) is ∙ ap (λ (rest : List T). job ∷ rest) (in_order between new steps behind)
  in_order old new (Beside ∷ steps) (between, is, behind) =
      ap (λ (waiting : List T). waiting ++ handed_over steps) (sym is) ∙ in_order between new steps behind

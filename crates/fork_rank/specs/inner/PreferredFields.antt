-- The fields of `Preferred` are given back by its list.
use Rattle.std.specs.Prelude.{◌≡◌, ℕ, List, length, take}
use Rattle.std.proofs.Common.{ap, ◌∙◌}
use Rattle.fork_rank.specs.declared.preferred.Preferred.TheInside.{Inside}
use Rattle.fork_rank.specs.Padding.{IsPadded}
use Rattle.fork_rank.specs.inner.Padding.{padded, length-kept, padded-kept}

abbrev pub fields_of : List ℕ → Inside
fields_of statuses = record { codes = padded statuses; count = length statuses }

pub fields_of-view : (a : Inside) → IsPadded a.codes a.count → fields_of (take a.count a.codes) ≡ a
fields_of-view a fits =
    let fields : List ℕ → ℕ → Inside = λ codes count. record { codes = codes; count = count } in
    ap (λ codes. fields codes (length (take a.count a.codes))) (padded-kept a.codes a.count fits)
    ∙ ap (fields a.codes) (length-kept a.codes a.count fits)

use Rattle.fork_listing.proofs.Common.{◌≡◌, ◌∙◌, ℕ, List, Some, map, sym, ap, slice_get, slice_get-map, slice_get_within, option_map, mapped, Ranked, IsListed, first_to_fail, first_same, rules, ◌↔◌, BTreeSet, contains, nat_cmp, nat_cmp_total}
use Rattle.fork_listing.proofs.Common.{first_from_Range, slice_get-get_or, get_or_from_slice_get}
use Rattle.std.specs.Prelude.{IsTrue}
use Rattle.std.specs.BTreeSet.{IsFromIterResult}
use Rattle.std.proofs.lemmas.Map.Lookups.{exact_unsigned}
use Rattle.std.proofs.lemmas.Map.Views.{btree_set_contains_from_list}
use Rattle.fork_listing.specs.inner.Stored.{number_in, IsCounted}
use Rattle.fork_listing.proofs.ranks.first_unlisted.Goals as goal

-- the set has the numbers that the lines name
named : (ranks : List Ranked) (numbers : BTreeSet ℕ) → IsFromIterResult nat_cmp (map number_in ranks) numbers → (n : ℕ)
    → IsTrue (contains nat_cmp numbers n) ↔ ((k : ℕ) × (ranked : Ranked) × (slice_get ranks k ≡ Some ranked) × (ranked.number ≡ n))
named ranks numbers made n =
    let all : List ℕ = map number_in ranks in
    let both = btree_set_contains_from_list nat_cmp_total exact_unsigned all numbers made n in (
      (λ has.
          let h = both.0 has in
          let r = mapped number_in (slice_get ranks h.0) (sym (slice_get-map number_in ranks h.0) ∙ slice_get-get_or all h.0 n h.1 ∙ ap Some h.2) in
          (h.0, r.0, r.1, sym r.2)),
      (λ h.
          let at : slice_get all h.0 ≡ Some n = slice_get-map number_in ranks h.0 ∙ ap (option_map number_in) h.2 ∙ ap Some h.3 in
          both.1 (h.0, slice_get_within all h.0 n at, get_or_from_slice_get all h.0 n n at)),
    )

pub returns : goal.returns
returns g c =
    let targets = c.args.targets.now in
    let P : ℕ → Type 0 = IsCounted targets c.in_ok-numbers.numbers in
    let names = named c.args.ranks.now c.in_ok-numbers.numbers c.in_ok-numbers.ensures in
    first_same P (IsListed targets c.args.ranks.now) (λ n. ((λ counted score e. (names n).0 (counted score e)), (λ listed score e. (names n).1 (listed score e)))) _ _
    (first_to_fail P _ _ (first_from_Range _ _ _ _ (λ n. P n → ⊥) P c.find.ensures.ran (λ x q k. search rules) (λ x q k. search rules)))

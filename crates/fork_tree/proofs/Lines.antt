-- What goes before a row stands at or below a row of an earlier group beside it.
use Rattle.fork_tree.proofs.Common.{◌≡◌, ℕ, zero, suc, ◌+◌, ◌<◌, ◌≤◌, inl, inr, ◌||◌, Bool, true, List, [], ◌∷◌, length, Option, Some, None, slice_get, refl, ap, sym, ◌∙◌, arith, if◌then◌else◌, eqb, eq-eqb, eqb-true, Row, is_ended, in_earlier_group}
use Rattle.fork_tree.proofs.Common.{goes_before, or_cases, or_right, parent_of, from_parent, leads, lies_below, open_where, open_below, slice_get_within, one_there, common_steps}
use Rattle.std.specs.List.{list_any}
use Rattle.fork_model.specs.Waiting.{parent_row, line_from}

pub or_left : (a b : Bool) → a ≡ true → (a || b) ≡ true
or_left a b e = ap (λ (x : Bool). x || b) e

-- each row stands under an older one
abbrev pub AreOlderRows : List Row → Type 0
AreOlderRows rows = (k u : ℕ) → parent_of (slice_get rows k) ≡ Some u → u < k

-- ---- the steps from a row to one that it lies below

leads_here : (f : ℕ → Option ℕ) (n s m : ℕ) → eqb m n ≡ true → leads f n s m ≡ true
leads_here f n s m e = grind arith

pub leads_up : (f : ℕ → Option ℕ) (n s m u : ℕ) → f m ≡ Some u → leads f n s u ≡ true → leads f n (suc s) m ≡ true
leads_up f n s m u is e = or_right (eqb m n) (from_parent (f m) (leads f n s)) (ap (λ o. from_parent o (leads f n s)) is ∙ e)

-- no more steps are needed than the number says
pub leads_enough : (f : ℕ → Option ℕ) (n t s m : ℕ) → ((k u : ℕ) → f k ≡ Some u → u < k) → m ≤ s → leads f n t m ≡ true → leads f n s m ≡ true
leads_enough f n zero s m older le h = leads_here f n s m h
leads_enough f n (suc t) s m older le h =
    elim (or_cases (eqb m n) (from_parent (f m) (leads f n t)) h) [
      | inl e ↦ leads_here f n s m e
      | inr k ↦ up s (f m) refl le k (λ u r l e. leads_enough f n t r u older l e)
    ]
  where
    up : (r : ℕ) (o : Option ℕ) → f m ≡ o → m ≤ r → from_parent o (leads f n t) ≡ true
        → ((u x : ℕ) → u ≤ x → leads f n t u ≡ true → leads f n x u ≡ true) → leads f n r m ≡ true
    up r None is le k again = absurd cc
    up zero (Some u) is le k again = absurd (omega (arith, older m u is, le))
    up (suc r) (Some u) is le k again = leads_up f n r m u is (again u r (omega (arith, older m u is, le)) k)

-- ---- from the line above a row

abbrev pub up_in : List Row → ℕ → Option ℕ
up_in rows k = parent_of (slice_get rows k)

-- a row of an earlier group beside this one, at or above row k
pub record IsBefore (rows : List Row) (row : Row) (k : ℕ) : Type 0 where
  pub number : ℕ
  pub first : Row
  pub there : slice_get rows number ≡ Some first
  pub earlier : in_earlier_group first row ≡ true
  pub below : lies_below rows number k ≡ true

record IsLed (rows : List Row) (row : Row) (k : ℕ) : Type 0 where
  pub number : ℕ
  pub first : Row
  pub there : slice_get rows number ≡ Some first
  pub earlier : in_earlier_group first row ≡ true
  pub steps : ℕ
  pub leading : leads (up_in rows) number steps k ≡ true

abbrev Passes : List Row → Row → Type 0
Passes line row = list_any (λ above. in_earlier_group above row) line ≡ true

line_led : (steps : ℕ) (rows : List Row) (row other : Row) (k : ℕ) → slice_get rows k ≡ Some other → Passes (line_from steps rows (Some other)) row → IsLed rows row k
line_led zero rows row other k is h = absurd cc
line_led (suc steps) rows row other k is h =
    elim (or_cases _ _ h) [
      | inl e ↦ record { number = k; first = other; there = is; earlier = e; steps = 0; leading = eq-eqb k k refl }
      | inr later ↦ up other.parent refl later (λ u above there p. line_led steps rows row above u there p)
    ]
  where
    at : (u : ℕ) (o : Option Row) → other.parent ≡ Some u → slice_get rows u ≡ o → Passes (line_from steps rows o) row
        → ((above : Row) → slice_get rows u ≡ Some above → Passes (line_from steps rows (Some above)) row → IsLed rows row u) → IsLed rows row k
    at u None parent there p again = absurd cc
    at u (Some above) parent there p again =
        let rest : IsLed rows row u = again above there p in
        record {
          number = rest.number;
          first = rest.first;
          there = rest.there;
          earlier = rest.earlier;
          steps = suc rest.steps;
          leading = leads_up (up_in rows) rest.number rest.steps k u (ap parent_of is ∙ parent) rest.leading;
        }

    up : (p : Option ℕ) → other.parent ≡ p → Passes (line_from steps rows (parent_row rows p)) row
        → ((u : ℕ) (above : Row) → slice_get rows u ≡ Some above → Passes (line_from steps rows (Some above)) row → IsLed rows row u) → IsLed rows row k
    up None parent h again = absurd cc
    up (Some u) parent h again = at u (slice_get rows u) parent refl h (again u)

pub before_found : (rows : List Row) (row other : Row) (k : ℕ) → AreOlderRows rows → slice_get rows k ≡ Some other → goes_before rows other row ≡ true → IsBefore rows row k
before_found rows row other k older is h = grind (arith, common_steps, line_led (length rows) rows row other k is h, leads_enough)

-- ---- and the other way

line_passes : (t s : ℕ) (rows : List Row) (row first other : Row) (m k : ℕ) → AreOlderRows rows → slice_get rows m ≡ Some first → in_earlier_group first row ≡ true
    → slice_get rows k ≡ Some other → k < s → leads (up_in rows) m t k ≡ true → Passes (line_from s rows (Some other)) row
line_passes t zero rows row first other m k older there earlier is lt h = absurd (omega (arith, lt))
line_passes zero (suc s) rows row first other m k older there earlier is lt h = grind (arith, common_steps, eqb-true k m h, one_there, or_left)
line_passes (suc t) (suc s) rows row first other m k older there earlier is lt h =
    elim (or_cases (eqb k m) (from_parent (up_in rows k) (leads (up_in rows) m t)) h) [
      | inl e ↦ (
          let one : other ≡ first = one_there rows k other first is (ap (slice_get rows) (eqb-true k m e) ∙ there) in
          or_left _ _ (ap (λ (x : Row). in_earlier_group x row) one ∙ earlier))
      | inr g ↦ or_right _ _ (up other.parent (ap parent_of is) (ap (λ o. from_parent o (leads (up_in rows) m t)) (sym (ap parent_of is)) ∙ g)
          (λ above u place less k. line_passes t s rows row first above m u older there earlier place less k))
    ]
  where
    at : (u : ℕ) (o : Option Row) → u < s → slice_get rows u ≡ o → leads (up_in rows) m t u ≡ true
        → ((above : Row) → slice_get rows u ≡ Some above → Passes (line_from s rows (Some above)) row) → Passes (line_from s rows o) row
    at u None less place g again = absurd (no_row t u place g)
      where
        no_row : (t u : ℕ) → slice_get rows u ≡ None → leads (up_in rows) m t u ≡ true → ⊥
        no_row t u place g = bad (leads_top t u place g)
          where
            leads_top : (t u : ℕ) → slice_get rows u ≡ None → leads (up_in rows) m t u ≡ true → eqb u m ≡ true
            leads_top zero u place g = g
            leads_top (suc t) u place g =
                elim (or_cases (eqb u m) (from_parent (up_in rows u) (leads (up_in rows) m t)) g)
                [ inl e ↦ e | inr f ↦ (let bad : from_parent None (leads (up_in rows) m t) ≡ true = ap (λ o. from_parent (parent_of o) (leads (up_in rows) m t)) (sym place) ∙ f in absurd cc) ]

            bad : eqb u m ≡ true → ⊥
            bad e =
                let same : None ≡ Some first = sym place ∙ ap (slice_get rows) (eqb-true u m e) ∙ there in
                cc
    at u (Some above) less place g again = again above place

    up : (p : Option ℕ) → up_in rows k ≡ p → from_parent p (leads (up_in rows) m t) ≡ true
        → ((above : Row) (u : ℕ) → slice_get rows u ≡ Some above → u < s → leads (up_in rows) m t u ≡ true → Passes (line_from s rows (Some above)) row)
        → Passes (line_from s rows (parent_row rows p)) row
    up None parent g again = absurd cc
    up (Some u) parent g again =
        let less : u < s = omega (arith, older k u parent, lt) in
        at u (slice_get rows u) less refl g (λ above place. again above u place less g)

pub before_goes : (rows : List Row) (row first other : Row) (m k : ℕ) → AreOlderRows rows → slice_get rows m ≡ Some first → in_earlier_group first row ≡ true
    → slice_get rows k ≡ Some other → lies_below rows m k ≡ true → goes_before rows other row ≡ true
before_goes rows row first other m k older there earlier is h = grind (arith, line_passes, slice_get_within)

-- ---- rows that have not ended

abbrev counted : Bool → ℕ
counted b = if b then 1 else 0

none_where : (test : ℕ → Bool) (k i : ℕ) (rows : List Row) (row : Row) → open_where test k rows ≡ 0 → slice_get rows i ≡ Some row → test (k + i) ≡ true → is_ended row.state ≡ true
none_where test k i [] row e is t = absurd cc
none_where test k zero (x ∷ rows) row e is t = grind arith
none_where test k (suc i) (x ∷ rows) row e is t =
    let at : suc k + i ≡ k + suc i = omega arith in
    let rest : open_where test (suc k) rows ≡ 0 = omega (arith, e) in
    none_where test (suc k) i rows row rest is (ap test at ∙ t)

pub none_below : (rows : List Row) (m k : ℕ) (row : Row) → open_below rows m ≡ 0 → slice_get rows k ≡ Some row → lies_below rows m k ≡ true → is_ended row.state ≡ true
none_below rows m k row e is t = none_where (lies_below rows m) 0 k rows row e is (let at : k ≡ 0 + k = omega arith in ap (lies_below rows m) (sym at) ∙ t)

pub lies_here : (rows : List Row) (k : ℕ) → AreOlderRows rows → lies_below rows k k ≡ true
lies_here rows k older = leads_enough (up_in rows) k 0 k k older (omega arith) (eq-eqb k k refl)

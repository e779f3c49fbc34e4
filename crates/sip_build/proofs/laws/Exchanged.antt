-- Header lines with others in the place of all those of a name, and round one of another name.
use Rattle.sip_build.proofs.Common.{◌≡◌, ℕ, suc, ◌+◌, ◌<◌, ◌≤◌, true, false, not, List, [], ◌∷◌, ◌++◌, length, take, drop, Option, refl, sym, ap, ◌∙◌, append_assoc, arith, inl, inr, codes, filter, cases_Bool, cond-true, cond-false, append-nil}
use Rattle.sip_build.proofs.Common.{same_name, HeaderText, line_if_any, place_of, replaced, exchanged, is_other, apart, common_steps}
use Rattle.sip_text.specs.Name.{full_name}
use Rattle.sip_via.proofs.laws.Places.{replaced-none, replaced-some}

-- a line of that name is passed over
pub filter-named : (name : List ℕ) (h : HeaderText) (hs : List HeaderText) → same_name name h.name ≡ true → filter (is_other name) (h ∷ hs) ≡ filter (is_other name) hs
filter-named name h hs same = cond-false (not (same_name name h.name)) (h ∷ filter (is_other name) hs) (filter (is_other name) hs) (ap not same)

split : (name : List ℕ) (lines hs : List HeaderText) → take (place_of name hs) hs ++ (lines ++ filter (is_other name) (drop (place_of name hs) hs)) ≡ exchanged name lines hs
split name lines [] = append-nil lines
split name lines (h ∷ hs) =
    let n = place_of name hs in
    let k : 1 + n ≡ suc n = omega arith in
    grind (arith, common_steps, cases_Bool (same_name name h.name), split name lines hs, cond-true, filter-named, cond-false)

pub exchanged-split : (name : List ℕ) (lines : List HeaderText) (hs front back : List HeaderText) (n : ℕ) → n ≡ place_of name hs → front ≡ take n hs → back ≡ drop n hs → front ++ (lines ++ filter (is_other name) back) ≡ exchanged name lines hs
exchanged-split name lines hs front back n at f b = grind (arith, common_steps, split)

-- ---- in two parts

filter-append : (name : List ℕ) (xs ys : List HeaderText) → filter (is_other name) (xs ++ ys) ≡ filter (is_other name) xs ++ filter (is_other name) ys
filter-append name [] ys = refl
filter-append name (x ∷ xs) ys = grind (arith, common_steps)

-- the first line of the name stands in the front part
exchanged-sooner : (name : List ℕ) (lines xs ys : List HeaderText) → place_of name xs < length xs → exchanged name lines (xs ++ ys) ≡ exchanged name lines xs ++ filter (is_other name) ys
exchanged-sooner name lines [] ys lt = absurd (omega (arith, lt))
exchanged-sooner name lines (x ∷ xs) ys lt =
    let n = place_of name xs in
    elim (cases_Bool (same_name name x.name)) [
      | inl same ↦
          cond-true (same_name name x.name) (lines ++ filter (is_other name) (xs ++ ys)) (x ∷ exchanged name lines (xs ++ ys)) same
          ∙ ap (λ (zs : List HeaderText). lines ++ zs) (filter-append name xs ys)
          ∙ sym (append_assoc lines (filter (is_other name) xs) (filter (is_other name) ys))
          ∙ sym (ap (λ (zs : List HeaderText). zs ++ filter (is_other name) ys) (cond-true (same_name name x.name) (lines ++ filter (is_other name) xs) (x ∷ exchanged name lines xs) same))
      | inr other ↦
          let at : place_of name (x ∷ xs) ≡ 1 + n = cond-false (same_name name x.name) 0 (1 + n) other in
          cond-false (same_name name x.name) (lines ++ filter (is_other name) (xs ++ ys)) (x ∷ exchanged name lines (xs ++ ys)) other
          ∙ ap (λ (zs : List HeaderText). x ∷ zs) (exchanged-sooner name lines xs ys (omega (arith, lt, at)))
          ∙ sym (ap (λ (zs : List HeaderText). zs ++ filter (is_other name) ys) (cond-false (same_name name x.name) (lines ++ filter (is_other name) xs) (x ∷ exchanged name lines xs) other))
    ]

-- the front part has no line of the name
exchanged-later : (name : List ℕ) (lines xs ys : List HeaderText) → length xs ≤ place_of name xs → exchanged name lines (xs ++ ys) ≡ xs ++ exchanged name lines ys
exchanged-later name lines [] ys le = refl
exchanged-later name lines (x ∷ xs) ys le =
    let n = place_of name xs in
    elim (cases_Bool (same_name name x.name)) [
      | inl same ↦
          let at : place_of name (x ∷ xs) ≡ 0 = cond-true (same_name name x.name) 0 (1 + n) same in
          absurd (omega (arith, le, at))
      | inr other ↦
          let at : place_of name (x ∷ xs) ≡ 1 + n = cond-false (same_name name x.name) 0 (1 + n) other in
          cond-false (same_name name x.name) (lines ++ filter (is_other name) (xs ++ ys)) (x ∷ exchanged name lines (xs ++ ys)) other
          ∙ ap (λ (zs : List HeaderText). x ∷ zs) (exchanged-later name lines xs ys (omega (arith, le, at)))
    ]

-- ---- round a line of another name

filter-round : (name n : List ℕ) (o : Option (List ℕ)) (ys : List HeaderText) → same_name name n ≡ false → filter (is_other name) (line_if_any n o ++ ys) ≡ line_if_any n o ++ filter (is_other name) ys
filter-round name n o ys other = grind arith

exchanged-round : (name n : List ℕ) (o : Option (List ℕ)) (lines ys : List HeaderText) → same_name name n ≡ false → exchanged name lines (line_if_any n o ++ ys) ≡ line_if_any n o ++ exchanged name lines ys
exchanged-round name n o lines ys other = grind arith

-- the line found has the name
place-named : (name : List ℕ) (hs after : List HeaderText) (x : HeaderText) → drop (place_of name hs) hs ≡ x ∷ after → same_name name x.name ≡ true
place-named name [] after x e = absurd cc
place-named name (h ∷ hs) after x e =
    let n = place_of name hs in
    let k : 1 + n ≡ suc n = omega arith in
    elim (cases_Bool (same_name name h.name)) [
      | inl same ↦
          let whole : h ∷ hs ≡ x ∷ after = sym (ap (λ m. drop m (h ∷ hs)) (cond-true (same_name name h.name) 0 (1 + n) same)) ∙ e in
          let is : h ≡ x = cc in
          ap (λ (y : HeaderText). same_name name y.name) (sym is) ∙ same
      | inr other ↦
          let at : place_of name (h ∷ hs) ≡ suc n = cond-false (same_name name h.name) 0 (1 + n) other ∙ k in
          place-named name hs after x (sym (ap (λ m. drop m (h ∷ hs)) at) ∙ e)
    ]

pub via-is-no-contact : same_name (codes "via") (codes "contact") ≡ false
unfolding full_name
via-is-no-contact = refl

-- the lines in two parts, at the first of the other name
pub record Parted (via : List ℕ) (hs before behind : List HeaderText) (n : ℕ) : Type 0 where
  pub place : n ≡ place_of via hs
  pub front : before ≡ take n hs
  pub back : behind ≡ drop n hs

pub parted_at : (via : List ℕ) (hs before behind : List HeaderText) (n : ℕ) → n ≡ place_of via hs → before ≡ take n hs → behind ≡ drop n hs → Parted via hs before behind n
parted_at via hs before behind n place front back = record { place = place; front = front; back = back }

front-of : (via : List ℕ) (hs front back : List HeaderText) (n : ℕ) → Parted via hs front back n → front ≡ take (place_of via hs) hs
front-of via hs front back n p = p.front ∙ ap (λ k. take k hs) p.place

back-of : (via : List ℕ) (hs front back : List HeaderText) (n : ℕ) → Parted via hs front back n → drop (place_of via hs) hs ≡ back
back-of via hs front back n p = sym (p.back ∙ ap (λ k. drop k hs) p.place)

changed : (via : List ℕ) (o : Option (List ℕ)) (hs front after : List HeaderText) (top : HeaderText) (n : ℕ) → Parted via hs front (top ∷ after) n → front ++ (line_if_any top.name o ++ after) ≡ replaced via o hs
changed via o hs front after top n p =
    ap (λ (xs : List HeaderText). xs ++ (line_if_any top.name o ++ after)) (front-of via hs front (top ∷ after) n p)
    ∙ sym (replaced-some via o hs after top (back-of via hs front (top ∷ after) n p))

other-named : (via name : List ℕ) (hs front after : List HeaderText) (top : HeaderText) (n : ℕ) → same_name via name ≡ false → Parted via hs front (top ∷ after) n → same_name name top.name ≡ false
other-named via name hs front after top n differ p = apart via name top.name differ (place-named via hs after top (back-of via hs front (top ∷ after) n p))

pub round-none : (via name : List ℕ) (o : Option (List ℕ)) (lines : List HeaderText) (hs front : List HeaderText) (n : ℕ) → Parted via hs front [] n → exchanged name lines front ≡ exchanged name lines (replaced via o hs)
round-none via name o lines hs front n p =
    ap (λ (xs : List HeaderText). exchanged name lines xs) (front-of via hs front [] n p ∙ sym (replaced-none via o hs (back-of via hs front [] n p)))

pub round-sooner : (via name : List ℕ) (o : Option (List ℕ)) (lines : List HeaderText) (hs front after : List HeaderText) (top : HeaderText) (n : ℕ) → same_name via name ≡ false → Parted via hs front (top ∷ after) n → place_of name front < length front → exchanged name lines front ++ (line_if_any top.name o ++ filter (is_other name) after) ≡ exchanged name lines (replaced via o hs)
round-sooner via name o lines hs front after top n differ p lt = grind (arith, common_steps, other-named via name hs front after top n differ p, changed via o hs front after top n p, filter-round, exchanged-sooner)

pub round-later : (via name : List ℕ) (o : Option (List ℕ)) (lines : List HeaderText) (hs front after : List HeaderText) (top : HeaderText) (n : ℕ) → same_name via name ≡ false → Parted via hs front (top ∷ after) n → length front ≤ place_of name front → front ++ (line_if_any top.name o ++ exchanged name lines after) ≡ exchanged name lines (replaced via o hs)
round-later via name o lines hs front after top n differ p le = grind (arith, common_steps, other-named via name hs front after top n differ p, changed via o hs front after top n p, exchanged-round, exchanged-later)

-- ---- what was added in three steps

pub none-left : {X : Type 0} (xs : List X) → length xs ≡ 0 → xs ≡ []
none-left xs e = grind (arith, common_steps)

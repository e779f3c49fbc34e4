-- What stays known of the groups that may start when rows change.
use Rattle.fork_tree.proofs.Common.{◌≡◌, ℕ, zero, suc, ◌⊎◌, inl, inr, Bool, true, false, IsTrue, List, [], ◌∷◌, ◌++◌, map, Option, Some, None, slice_get, refl, ap, sym, subst, ◌∙◌, eqb, Row, is_idle, is_ended, is_row, with_state, in_earlier_group}
use Rattle.fork_tree.proofs.Common.{goes_before, parent_ended, and_left, and_right, MayStart, option_same, or_cases, or_right, NewRow, waiting_row, parent_of, from_parent, leads, eqb-true, AreBelow, stays, common_steps, arith}
use Rattle.fork_model.specs.Table.{State, is_trying}
use Rattle.fork_model.specs.Waiting.{same_group}
use Rattle.fork_model.proofs.laws.ChangeLemmas.{changed_row}
use Rattle.fork_tree.proofs.Lines.{AreOlderRows, IsBefore, before_found, before_goes, or_left}

abbrev pub AreMates : Row → Row → Type 0
AreMates a b = (a.parent ≡ b.parent) × (a.group ≡ b.group)

pub differ : (b : Bool) → b ≡ true → b ≡ false → ⊥
differ b e f = cc

pub is_member : (a b : Row) → AreMates a b → same_group a b ≡ true
is_member a b m = grind arith

pub members_of : (a b : Row) → same_group a b ≡ true → AreMates a b
members_of a b e = (option_same a.parent b.parent (and_left _ _ e), eqb-true a.group b.group (and_right _ _ e))

pub leads_more : (f g : ℕ → Option ℕ) (n s m : ℕ) → ((k u : ℕ) → f k ≡ Some u → g k ≡ Some u) → leads f n s m ≡ true → leads g n s m ≡ true
leads_more f g n zero m more h = h
leads_more f g n (suc s) m more h =
    elim (or_cases (eqb m n) (from_parent (f m) (leads f n s)) h) [
      | inl e ↦ or_left (eqb m n) (from_parent (g m) (leads g n s)) e
      | inr k ↦ or_right (eqb m n) (from_parent (g m) (leads g n s)) (up (f m) refl k (λ u l. leads_more f g n s u more l))
    ]
  where
    up : (o : Option ℕ) → f m ≡ o → from_parent o (leads f n s) ≡ true → ((u : ℕ) → leads f n s u ≡ true → leads g n s u ≡ true)
        → from_parent (g m) (leads g n s) ≡ true
    up None is k again = absurd cc
    up (Some u) is k again = ap (λ o. from_parent o (leads g n s)) (more m u is) ∙ again u k

-- the row of this number stands where it stood
pub record StandsSo (later : List Row) (k : ℕ) (row : Row) : Type 0 where
  pub new : Row
  pub there : slice_get later k ≡ Some new
  pub members : AreMates new row

abbrev pub KeepsPlaces : List Row → List Row → Type 0
KeepsPlaces rows later = (k : ℕ) (row : Row) → slice_get rows k ≡ Some row → StandsSo later k row

pub up_later : (rows later : List Row) → KeepsPlaces rows later → (k u : ℕ) → parent_of (slice_get rows k) ≡ Some u → parent_of (slice_get later k) ≡ Some u
up_later rows later keeps k u e = go (slice_get rows k) refl e
  where
    go : (o : Option Row) → slice_get rows k ≡ o → parent_of o ≡ Some u → parent_of (slice_get later k) ≡ Some u
    go None is h = absurd cc
    go (Some row) is h = let new : StandsSo later k row = keeps k row is in ap parent_of new.there ∙ new.members.0 ∙ h

pub earlier_as : (a b row : Row) → AreMates a b → in_earlier_group b row ≡ true → in_earlier_group a row ≡ true
earlier_as a b row m e = grind arith

goes_later : (rows later : List Row) (k : ℕ) (other new row : Row) → AreOlderRows rows → AreOlderRows later → KeepsPlaces rows later
    → slice_get rows k ≡ Some other → slice_get later k ≡ Some new → goes_before rows other row ≡ true → goes_before later new row ≡ true
goes_later rows later k other new row older olds keeps is at goes =
    let b : IsBefore rows row k = before_found rows row other k older is goes in
    let f : StandsSo later b.number b.first = keeps b.number b.first b.there in
    grind (arith, common_steps, up_later rows later keeps, before_goes, earlier_as, leads_more)

-- the row of this number is in another state, and did not hold the other row up
pub record IsMoved (rows later : List Row) (m : ℕ) (other row : Row) : Type 0 where
  pub state : State
  pub there : slice_get later m ≡ Some (record other { state = state })
  pub busy : is_idle state ≡ false
  pub free : goes_before rows other row ≡ true → is_ended state ≡ true → is_ended other.state ≡ true

abbrev pub Moves : List Row → List Row → Row → Type 0
Moves rows later row = (m : ℕ) (other : Row) → slice_get rows m ≡ Some other → (slice_get later m ≡ Some other) ⊎ IsMoved rows later m other row

moves_keep : (rows later : List Row) (row : Row) → Moves rows later row → KeepsPlaces rows later
moves_keep rows later row moves k other is =
    elim (moves k other is) [
      | inl h ↦ record { new = other; there = h; members = (refl, refl) }
      | inr h ↦ record { new = record other { state = h.state }; there = h.there; members = (refl, refl) }
    ]

pub may_back : (rows later : List Row) (row : Row) → AreOlderRows rows → AreOlderRows later → Moves rows later row → parent_ended rows row.parent ≡ true
    → MayStart later row → MayStart rows row
may_back rows later row older olds moves parent may = record {
  idle = may.idle;
  members = λ m member is same. waits m member same (moves m member is);
  parent = parent;
  before = λ m other is goes. ended m other is goes (moves m other is);
}
  where
    waits : (m : ℕ) (member : Row) → same_group member row ≡ true → (slice_get later m ≡ Some member) ⊎ IsMoved rows later m member row → is_idle member.state ≡ true
    waits m member same (inl h) = may.members m member h same
    waits m member same (inr h) = absurd (differ (is_idle h.state) (may.members m (record member { state = h.state }) h.there same) h.busy)

    ended : (m : ℕ) (other : Row) → slice_get rows m ≡ Some other → goes_before rows other row ≡ true
        → (slice_get later m ≡ Some other) ⊎ IsMoved rows later m other row → is_ended other.state ≡ true
    ended m other is goes (inl h) = may.before m other h (goes_later rows later m other other row older olds (moves_keep rows later row moves) is h goes)
    ended m other is goes (inr h) =
        h.free goes
        (may.before m (record other { state = h.state }) h.there
        (goes_later rows later m other (record other { state = h.state }) row older olds (moves_keep rows later row moves) is h.there goes))

pub record IsStep (rows later fresh : List Row) (n : ℕ) (rn : Row) (s : State) : Type 0 where
  pub there : slice_get rows n ≡ Some rn
  pub made : later ≡ with_state rows n s ++ fresh
  pub below : AreBelow (Some n) s fresh
  pub older : AreOlderRows rows
  pub olds : AreOlderRows later

abbrev pub RankedAnswer : List Row → ℕ → State → ℕ → Row → Type 0
RankedAnswer later n s m row = (slice_get later m ≡ Some row) ⊎ ((m ≡ n) × (slice_get later m ≡ Some (record row { state = s })))

pub kept : (rows later fresh : List Row) (n : ℕ) (rn : Row) (s : State) → IsStep rows later fresh n rn s → (m : ℕ) (row : Row) → slice_get rows m ≡ Some row → RankedAnswer later n s m row
kept rows later fresh n rn s step m row is = let P : List Row → Type 0 = λ x. RankedAnswer x n s m row in subst P (sym step.made) (stays rows fresh n s m row is)

pub changed : (rows later fresh : List Row) (n : ℕ) (rn : Row) (s : State) → IsStep rows later fresh n rn s → slice_get later n ≡ Some (record rn { state = s })
changed rows later fresh n rn s step = ap (λ (x : List Row). slice_get x n) step.made ∙ changed_row rows fresh n s rn step.there

pub none_new : (i : ℕ) (row : Row) → slice_get {X = Row} [] i ≡ Some row → ⊥
none_new i row e = cc

pub places_kept : (rows later fresh : List Row) (n : ℕ) (rn : Row) (s : State) → IsStep rows later fresh n rn s → KeepsPlaces rows later
places_kept rows later fresh n rn s step k r is = grind (arith, common_steps, kept rows later fresh n rn s step k r is)

pub some_row : (test : State → Bool) (o : Option Row) → IsTrue (is_row test o) → (row : Row) × (o ≡ Some row)
some_row test o h = grind arith

pub ended_busy : (s : State) → is_ended s ≡ true → (is_idle s ≡ false) × (is_trying s ≡ false)
ended_busy s e = grind arith

pub new_rows_below : (n : ℕ) (new_rows : List NewRow) (s : State) → is_ended s ≡ true → AreBelow (Some n) s (map (waiting_row (Some n)) new_rows)
new_rows_below n [] s ends k row is = absurd cc
new_rows_below n (x ∷ new_rows) s ends zero row is = grind arith
new_rows_below n (x ∷ new_rows) s ends (suc k) row is = new_rows_below n new_rows s ends k row is

pub top_parent : (new_rows : List NewRow) (k : ℕ) (row : Row) → slice_get (map (waiting_row None) new_rows) k ≡ Some row → row.parent ≡ None
top_parent [] k row is = absurd cc
top_parent (s ∷ new_rows) zero row is = let same : waiting_row None s ≡ row = cc in sym (ap (λ (r : Row). r.parent) same)
top_parent (s ∷ new_rows) (suc k) row is = top_parent new_rows k row is

-- One branch ends, and others may come to stand under it: the branches still stand as they may.
use Rattle.fork_listing.proofs.Common.{◌≡◌, ◌≢◌, ℕ, zero, suc, ◌+◌, ◌<◌, ◌≤◌, true, false, List, [], ◌∷◌, ◌++◌, length, Option, Some, None, refl, sym, ap, subst, ◌∙◌, arith, inl, inr, ◌⊎◌, slice_get, option_and_then, End, Stored, Taken, Never}
use Rattle.fork_listing.proofs.Common.{ListedTarget, arrival_of, ended_at, is_redirection, is_redirected, IsParent, IsBefore, Follows, FollowsTarget, line_before, IsEarlier, HasDepth, IsInPlace, IsStatus, IsHow, most_q, some_same, none_some}
use Rattle.fork_listing.proofs.Common.{slice_get_within, there, looked, cases_eq}

-- what a stored answer keeps
abbrev pub IsKept : End → Type 0
IsKept (Stored status arrival received) = IsStatus status × IsHow received status
IsKept end = Unit {0}

-- the branches stand as they may, and each that has ended did so before this position
pub record IsGrown (most_depth : ℕ) (targets : List ListedTarget) (at : ℕ) : Type 0 where
  pub placed : (n : ℕ) (target : ListedTarget) → slice_get targets n ≡ Some target → IsInPlace most_depth targets n target
  pub past : (n a : ℕ) → ended_at targets n ≡ Some a → a < at
  pub kept : (n : ℕ) (target : ListedTarget) → slice_get targets n ≡ Some target → (target.q ≤ most_q) × IsKept target.end

-- the line at a place with another end
abbrev pub with_end : List ListedTarget → ℕ → End → List ListedTarget
with_end [] n end = []
with_end (target ∷ targets) zero end = record target { end = end } ∷ targets
with_end (target ∷ targets) (suc n) end = target ∷ with_end targets n end

-- ---- where a line of the longer list comes from

pub data From (old fresh : List ListedTarget) (n : ℕ) (end : End) (m : ℕ) (target : ListedTarget) : Type 0 where
  Old : slice_get old m ≡ Some target → m ≢ n → From old fresh n end m target
  Here : (was : ListedTarget) → slice_get old m ≡ Some was → m ≡ n → target ≡ record was { end = end } → From old fresh n end m target
  New : (k : ℕ) → m ≡ length old + k → slice_get fresh k ≡ Some target → From old fresh n end m target

lift : (x : ListedTarget) (old fresh : List ListedTarget) (n : ℕ) (end : End) (m : ℕ) (target : ListedTarget) → From old fresh n end m target → From (x ∷ old) fresh (suc n) end (suc m) target
lift x old fresh n end m target (Old is other) = Old is (λ e. other (let h : m ≡ n = omega arith in h))
lift x old fresh n end m target (Here was is same by) = Here was is (ap suc same) by
lift x old fresh n end m target (New k at is) = New k (let e : suc m ≡ length (x ∷ old) + k = omega arith in e) is

behind : (x : ListedTarget) (old fresh : List ListedTarget) (end : End) (m : ℕ) (target : ListedTarget) → slice_get (old ++ fresh) m ≡ Some target → From (x ∷ old) fresh 0 end (suc m) target
behind x [] fresh end m target is = New m (let e : suc m ≡ length (x ∷ []) + m = omega arith in e) is
behind x (y ∷ old) fresh end zero target is = Old is (λ e. absurd (let h : suc zero ≡ zero = e in omega arith))
behind x (y ∷ old) fresh end (suc m) target is = go (behind y old fresh end m target is)
  where
    go : From (y ∷ old) fresh 0 end (suc m) target → From (x ∷ y ∷ old) fresh 0 end (suc (suc m)) target
    go (Old is other) = Old is (λ e. absurd (let h : suc (suc m) ≡ zero = e in omega arith))
    go (Here was is same by) = absurd (let h : suc m ≡ zero = same in omega arith)
    go (New k at is) = New k (let e : suc (suc m) ≡ length (x ∷ y ∷ old) + k = omega arith in e) is

pub from_new : (old fresh : List ListedTarget) (n : ℕ) (end : End) (m : ℕ) (target : ListedTarget) → slice_get (with_end old n end ++ fresh) m ≡ Some target → From old fresh n end m target
from_new [] fresh n end m target is = New m (let e : m ≡ 0 + m = omega arith in e) is
from_new (x ∷ old) fresh zero end zero target is = Here x refl refl (sym (some_same is))
from_new (x ∷ old) fresh zero end (suc m) target is = behind x old fresh end m target is
from_new (x ∷ old) fresh (suc n) end zero target is = Old is (λ e. absurd (let h : zero ≡ suc n = e in omega arith))
from_new (x ∷ old) fresh (suc n) end (suc m) target is = lift x old fresh n end m target (from_new old fresh n end m target is)

front_stays : (old fresh : List ListedTarget) (m : ℕ) (target : ListedTarget) → slice_get old m ≡ Some target → slice_get (old ++ fresh) m ≡ Some target
front_stays [] fresh m target is = absurd (none_some is)
front_stays (x ∷ old) fresh zero target is = is
front_stays (x ∷ old) fresh (suc m) target is = front_stays old fresh m target is

other_stays : (old fresh : List ListedTarget) (n : ℕ) (end : End) (m : ℕ) (target : ListedTarget) → slice_get old m ≡ Some target → m ≢ n → slice_get (with_end old n end ++ fresh) m ≡ Some target
other_stays [] fresh n end m target is other = absurd (none_some is)
other_stays (x ∷ old) fresh zero end zero target is other = absurd (other refl)
other_stays (x ∷ old) fresh zero end (suc m) target is other = front_stays old fresh m target is
other_stays (x ∷ old) fresh (suc n) end zero target is other = is
other_stays (x ∷ old) fresh (suc n) end (suc m) target is other = other_stays old fresh n end m target is (λ e. other (ap suc e))

here_ends : (old fresh : List ListedTarget) (n : ℕ) (end : End) (was : ListedTarget) → slice_get old n ≡ Some was → slice_get (with_end old n end ++ fresh) n ≡ Some (record was { end = end })
here_ends [] fresh n end was is = absurd (none_some is)
here_ends (x ∷ old) fresh zero end was is = ap (λ (t : ListedTarget). Some (record t { end = end })) (some_same is)
here_ends (x ∷ old) fresh (suc n) end was is = here_ends old fresh n end was is

-- a redirection has an arrival
redirection_ends : (end : End) → is_redirection end ≡ true → (a : ℕ) × (arrival_of end ≡ Some a)
redirection_ends (Stored status arrival received) e = (arrival, refl)
redirection_ends (Taken arrival) e = (arrival, refl)
redirection_ends end e = absurd cc

pub redirected_ends : (targets : List ListedTarget) (p : ℕ) → is_redirected (slice_get targets p) ≡ true → (a : ℕ) × (ended_at targets p ≡ Some a)
redirected_ends targets p e = grind (arith, redirection_ends)

-- what is known where a branch ends
pub record Ends (most_depth : ℕ) (old fresh : List ListedTarget) (n at : ℕ) (was : ListedTarget) (end : End) : Type 0 where
  pub there : slice_get old n ≡ Some was
  pub open_yet : was.end ≡ Never
  pub arrival : (a : ℕ) → arrival_of end ≡ Some a → a ≡ at
  pub keeps : IsKept end
  pub number : (k : ℕ) (f : ListedTarget) → slice_get fresh k ≡ Some f → f.number ≡ length old + k
  pub parent : (k : ℕ) (f : ListedTarget) → slice_get fresh k ≡ Some f → f.parent ≡ Some n
  pub waits : (k : ℕ) (f : ListedTarget) → slice_get fresh k ≡ Some f → f.end ≡ Never
  pub small : (k : ℕ) (f : ListedTarget) → slice_get fresh k ≡ Some f → f.q ≤ most_q
  pub redirects : (k : ℕ) (f : ListedTarget) → slice_get fresh k ≡ Some f → is_redirection end ≡ true
  pub shallow : (k : ℕ) (f : ListedTarget) → slice_get fresh k ≡ Some f → (deep : ℕ) → HasDepth old was.parent deep → suc deep ≤ most_depth
  pub falls : (j k : ℕ) (f g : ListedTarget) → j < k → slice_get fresh j ≡ Some f → slice_get fresh k ≡ Some g → g.q ≤ f.q

module _ {most_depth n at : ℕ} {old fresh : List ListedTarget} {was : ListedTarget} {end : End} (grown : IsGrown most_depth old at) (ends : Ends most_depth old fresh n at was end) where
  abbrev now : List ListedTarget
  now = with_end old n end ++ fresh

  ended_before : (m a : ℕ) → ended_at old m ≡ Some a → m ≢ n
  ended_before m a e same =
      let here : slice_get old m ≡ Some was = ap (slice_get old) same ∙ ends.there in
      let never : ended_at old m ≡ None = ap (option_and_then (λ (t : ListedTarget). arrival_of t.end)) here ∙ ap arrival_of ends.open_yet in
      none_some (sym never ∙ e)

  -- an end stays
  ended_yet : (m a : ℕ) → ended_at old m ≡ Some a → ended_at now m ≡ Some a
  ended_yet m a e =
      let s = looked (λ (t : ListedTarget). arrival_of t.end) (slice_get old m) e in
      ap (option_and_then (λ (t : ListedTarget). arrival_of t.end)) (other_stays old fresh n end m s.0 s.1 (ended_before m a e)) ∙ s.2

  -- and each is one of before or of this position
  ended_from : (m a : ℕ) → ended_at now m ≡ Some a → ((m ≡ n) × (a ≡ at)) ⊎ (ended_at old m ≡ Some a)
  ended_from m a e =
      let s = looked (λ (t : ListedTarget). arrival_of t.end) (slice_get now m) e in
      by s.0 (from_new old fresh n end m s.0 s.1) s.2
    where
      by : (target : ListedTarget) → From old fresh n end m target → arrival_of target.end ≡ Some a → ((m ≡ n) × (a ≡ at)) ⊎ (ended_at old m ≡ Some a)
      by target (Old is other) e = inr (ap (option_and_then (λ (t : ListedTarget). arrival_of t.end)) is ∙ e)
      by target (Here before is same made) e = inl (same, ends.arrival a (ap (λ (t : ListedTarget). arrival_of t.end) (sym made) ∙ e))
      by target (New k place is) e = absurd (none_some (ap arrival_of (sym (ends.waits k target is)) ∙ e))

  not_redirected : is_redirected (slice_get old n) ≡ true → ⊥
  not_redirected e =
      let none : is_redirected (slice_get old n) ≡ false = ap is_redirected ends.there ∙ ap is_redirection ends.open_yet in
      let wrong : true ≡ false = sym e ∙ none in
      absurd cc

  redirected_yet : (p : ℕ) → is_redirected (slice_get old p) ≡ true → is_redirected (slice_get now p) ≡ true
  redirected_yet p e = go (slice_get old p) refl e
    where
      go : (o : Option ListedTarget) → slice_get old p ≡ o → is_redirected o ≡ true → is_redirected (slice_get now p) ≡ true
      go None is e = absurd cc
      go (Some target) is e =
          let other : p ≢ n = λ same. not_redirected (ap (λ m. is_redirected (slice_get old m)) (sym same) ∙ ap is_redirected is ∙ e) in
          ap is_redirected (other_stays old fresh n end p target is other) ∙ e

  -- the line of before stands there still, with its number, parent and q
  record Stays (m : ℕ) (target : ListedTarget) : Type 0 where
    line : ListedTarget
    there : slice_get now m ≡ Some line
    parent : line.parent ≡ target.parent

  stays : (m : ℕ) (target : ListedTarget) → slice_get old m ≡ Some target → Stays m target
  stays m target is = go (cases_eq m n)
    where
      go : (m ≡ n) ⊎ (m ≢ n) → Stays m target
      go (inl same) =
          let moved : slice_get old n ≡ Some target = ap (slice_get old) (sym same) ∙ is in
          record { line = record target { end = end }; there = ap (slice_get now) same ∙ here_ends old fresh n end target moved; parent = refl }
      go (inr other) = record { line = target; there = other_stays old fresh n end m target is other; parent = refl }

  depth_yet : (parent : Option ℕ) (deep : ℕ) → HasDepth old parent deep → HasDepth now parent deep
  depth_yet None zero h = tt
  depth_yet (Some p) (suc deep) h =
      let yet = stays p h.0 h.1 in
      (yet.line, yet.there, subst (λ (o : Option ℕ). HasDepth now o deep) (sym yet.parent) (depth_yet h.0.parent deep h.2))
  depth_yet parent deep h = absurd h

  -- ---- the rules of a line that stood before, whatever its end is now

  old_parent : (m : ℕ) (parent : Option ℕ) → IsParent old m parent → IsParent now m parent
  old_parent m None h = tt
  old_parent m (Some p) h = (h.0, redirected_yet p h.1)

  before_yet : (a b : ℕ) → IsBefore (ended_at old a) (ended_at old b) → IsBefore (ended_at now a) (ended_at now b)
  before_yet a b h = go (ended_at old a) (ended_at old b) refl refl h
    where
      go : (x y : Option ℕ) → ended_at old a ≡ x → ended_at old b ≡ y → IsBefore x y → IsBefore (ended_at now a) (ended_at now b)
      go (Some x) (Some y) ea eb h = rw (ended_yet a x ea) (rw (ended_yet b y eb) h)
      go x y ea eb h = absurd h

  old_follows : (a b : Option ℕ) → Follows old a b → Follows now a b
  old_follows None b h = tt
  old_follows (Some a) None h = absurd h
  old_follows (Some a) (Some b) (inl same) = inl same
  old_follows (Some a) (Some b) (inr earlier) = inr (before_yet a b earlier)

  -- the line before one that stood before stood there too
  old_before : (m : ℕ) (target : ListedTarget) (parent : Option ℕ) → slice_get old m ≡ Some target → FollowsTarget old (line_before old m) parent → FollowsTarget now (line_before now m) parent
  old_before zero target parent is h = tt
  old_before (suc m) target parent is h =
      let b = there old m (omega (arith, slice_get_within old (suc m) target is)) in
      let yet = stays m b.0 b.1 in
      let follows = old_follows b.0.parent parent (subst (λ (o : Option ListedTarget). FollowsTarget old o parent) b.1 h) in
      subst (λ (o : Option ListedTarget). FollowsTarget now o parent) (sym yet.there) (subst (λ (o : Option ℕ). Follows now o parent) (sym yet.parent) follows)

  old_falls : (m : ℕ) (target : ListedTarget) (q : ℕ) (parent : Option ℕ) → slice_get old m ≡ Some target
      → ((j : ℕ) (other : ListedTarget) → j < m → slice_get old j ≡ Some other → other.parent ≡ parent → q ≤ other.q)
      → (j : ℕ) (other : ListedTarget) → j < m → slice_get now j ≡ Some other → other.parent ≡ parent → q ≤ other.q
  old_falls m target q parent is h j other lt there_now same = go (from_new old fresh n end j other there_now)
    where
      go : From old fresh n end j other → q ≤ other.q
      go (Old was_there differs) = h j other lt was_there same
      go (Here before was_there place made) =
          omega (arith, ap (λ (t : ListedTarget). t.q) made, h j before lt was_there (ap (λ (t : ListedTarget). t.parent) (sym made) ∙ same))
      go (New k place new_there) = absurd (omega (arith, lt, place, slice_get_within old m target is))

  -- where the parent was redirected, it has ended, and has now by the same event
  parent_ended : (m p : ℕ) → IsParent old m (Some p) → (a : ℕ) × (ended_at old p ≡ Some a) × (ended_at now p ≡ Some a)
  parent_ended m p h = let x = redirected_ends old p h.1 in (x.0, x.1, ended_yet p x.0 x.1)

  old_later : (m : ℕ) (parent end_at : Option ℕ) → IsParent old m parent → IsEarlier (option_and_then (ended_at old) parent) end_at → IsEarlier (option_and_then (ended_at now) parent) end_at
  old_later m None end_at h earlier = tt
  old_later m (Some p) end_at h earlier =
      let x = parent_ended m p h in
      let P : Option ℕ → Type 0 = λ o. IsEarlier o end_at in
      subst P (sym x.2) (subst P x.1 earlier)

  now_later : (m : ℕ) (parent end_at : Option ℕ) → IsParent old m parent → ((a : ℕ) → end_at ≡ Some a → a ≡ at) → IsEarlier (option_and_then (ended_at now) parent) end_at
  now_later m None end_at h is_at = tt
  now_later m (Some p) end_at h is_at =
      let x = parent_ended m p h in
      let less : x.0 < at = grown.past p x.0 x.1 in
      let P : Option ℕ → Type 0 = λ o. IsEarlier o end_at in
      subst P (sym x.2) (by end_at is_at x.0 less)
    where
      by : (o : Option ℕ) → ((a : ℕ) → o ≡ Some a → a ≡ at) → (x : ℕ) → x < at → IsEarlier (Some x) o
      by None is_at x less = tt
      by (Some a) is_at x less = let same : a ≡ at = is_at a refl in omega arith

  placed_old : (m : ℕ) (target : ListedTarget) → slice_get old m ≡ Some target → m ≢ n → IsInPlace most_depth now m target
  placed_old m target is other =
      let h = grown.placed m target is in
      record {
        number = h.number;
        parent = old_parent m target.parent h.parent;
        follows = old_before m target target.parent is h.follows;
        falls = old_falls m target target.q target.parent is h.falls;
        apart = apart h;
        later = old_later m target.parent (arrival_of target.end) h.parent h.later;
        depth = (h.depth.0, depth_yet target.parent h.depth.0 h.depth.1, h.depth.2);
      }
    where
      apart : IsInPlace most_depth old m target → (j a : ℕ) → j < m → ended_at now j ≡ Some a → arrival_of target.end ≡ Some a → ⊥
      apart h j a lt e mine =
          elim (ended_from j a e) [
            | inl now_ended ↦ omega (arith, now_ended.1, grown.past m a (ap (option_and_then (λ (t : ListedTarget). arrival_of t.end)) is ∙ mine))
            | inr ended ↦ h.apart j a lt ended mine
          ]

  placed_here : (target before : ListedTarget) → slice_get old n ≡ Some before → target ≡ record before { end = end } → IsInPlace most_depth now n target
  placed_here target before is made =
      let h = grown.placed n before is in
      subst (IsInPlace most_depth now n) (sym made) (record {
        number = h.number;
        parent = old_parent n before.parent h.parent;
        follows = old_before n before before.parent is h.follows;
        falls = old_falls n before before.q before.parent is h.falls;
        apart = apart;
        later = now_later n before.parent (arrival_of end) h.parent ends.arrival;
        depth = (h.depth.0, depth_yet before.parent h.depth.0 h.depth.1, h.depth.2);
      })
    where
      apart : (j a : ℕ) → j < n → ended_at now j ≡ Some a → arrival_of end ≡ Some a → ⊥
      apart j a lt e mine =
          elim (ended_from j a e) [
            | inl now_ended ↦ omega (arith, lt, now_ended.0)
            | inr ended ↦ omega (arith, grown.past j a ended, ends.arrival a mine)
          ]

  -- ---- the rules of a line that is new

  module _ (k : ℕ) (target : ListedTarget) (new_there : slice_get fresh k ≡ Some target) where
    ended_now : (a : ℕ) × (ended_at now n ≡ Some a) × (a ≡ at)
    ended_now =
        let x = redirection_ends end (ends.redirects k target new_there) in
        (x.0, ap (option_and_then (λ (t : ListedTarget). arrival_of t.end)) (here_ends old fresh n end was ends.there) ∙ x.1, ends.arrival x.0 x.1)

    new_follows : (m : ℕ) (b : ListedTarget) → slice_get now m ≡ Some b → Follows now b.parent (Some n)
    new_follows m b is = go (from_new old fresh n end m b is)
      where
        behind_old : (j : ℕ) (parent : Option ℕ) → IsParent old j parent → Follows now parent (Some n)
        behind_old j None h = tt
        behind_old j (Some p) h =
            let x = parent_ended j p h in
            let y = ended_now in
            let lt : x.0 < y.0 = omega (arith, grown.past p x.0 x.1, y.2) in
            inr (rw x.2 (rw y.1 lt))

        go : From old fresh n end m b → Follows now b.parent (Some n)
        go (Old was_there other) = behind_old m b.parent (grown.placed m b was_there).parent
        go (Here before was_there place made) =
            subst (λ (t : ListedTarget). Follows now t.parent (Some n)) (sym made) (behind_old m before.parent (grown.placed m before was_there).parent)
        go (New i place is_new) = subst (λ (o : Option ℕ). Follows now o (Some n)) (sym (ends.parent i b is_new)) (inl refl)

    new_before : (m : ℕ) → FollowsTarget now (line_before now m) (Some n)
    new_before zero = tt
    new_before (suc m) = go (slice_get now m) refl
      where
        go : (o : Option ListedTarget) → slice_get now m ≡ o → FollowsTarget now o (Some n)
        go None is = tt
        go (Some b) is = new_follows m b is

    new_falls : (m j : ℕ) (other : ListedTarget) → m ≡ length old + k → j < m → slice_get now j ≡ Some other → other.parent ≡ Some n → target.q ≤ other.q
    new_falls m j other place lt is under = go (from_new old fresh n end j other is)
      where
        no_child : (i : ℕ) (t : ListedTarget) → slice_get old i ≡ Some t → t.parent ≡ Some n → ⊥
        no_child i t there_old parents =
            let h : IsParent old i (Some n) = subst (IsParent old i) parents (grown.placed i t there_old).parent in
            not_redirected h.1

        go : From old fresh n end j other → target.q ≤ other.q
        go (Old was_there differs) = absurd (no_child j other was_there under)
        go (Here before was_there same made) = absurd (no_child j before was_there (ap (λ (t : ListedTarget). t.parent) (sym made) ∙ under))
        go (New i at_place is_new) = ends.falls i k other target (let less : i < k = omega arith in less) is_new new_there

    placed_new : (m : ℕ) → m ≡ length old + k → IsInPlace most_depth now m target
    placed_new m place =
        let within : n < length old = slice_get_within old n was ends.there in
        let h = grown.placed n was ends.there in
        let redirects_now : is_redirected (slice_get now n) ≡ true = ap is_redirected (here_ends old fresh n end was ends.there) ∙ ends.redirects k target new_there in
        let lt : n < m = omega arith in
        let under = ends.parent k target new_there in
        let waits = ends.waits k target new_there in
        let number : target.number ≡ m = ends.number k target new_there ∙ sym place in
        let deeper : ℕ = suc h.depth.0 in
        let is_deep : HasDepth now (Some n) deeper =
        (record was { end = end }, here_ends old fresh n end was ends.there, depth_yet was.parent h.depth.0 h.depth.1) in
        record {
          number = number;
          parent = subst (IsParent now m) (sym under) (lt, redirects_now);
          follows = subst (FollowsTarget now (line_before now m)) (sym under) (new_before m);
          falls = λ j other less is same. new_falls m j other place less is (same ∙ under);
          apart = λ j a less e mine. none_some (ap arrival_of (sym waits) ∙ mine);
          later = later waits;
          depth = (deeper, subst (λ (o : Option ℕ). HasDepth now o deeper) (sym under) is_deep, ends.shallow k target new_there h.depth.0 h.depth.1);
        }
      where
        none_later : (o : Option ℕ) → IsEarlier o None
        none_later None = tt
        none_later (Some a) = tt

        later : target.end ≡ Never → IsEarlier (option_and_then (ended_at now) target.parent) (arrival_of target.end)
        later waits =
            subst (λ (e : End). IsEarlier (option_and_then (ended_at now) target.parent) (arrival_of e)) (sym waits)
            (none_later (option_and_then (ended_at now) target.parent))

  pub grows : IsGrown most_depth now (suc at)
  grows = record {
    placed = λ m target is. placed m target (from_new old fresh n end m target is);
    past = past;
    kept = λ m target is. keeps m target (from_new old fresh n end m target is);
  }
    where
      placed : (m : ℕ) (target : ListedTarget) → From old fresh n end m target → IsInPlace most_depth now m target
      placed m target (Old is other) = placed_old m target is other
      placed m target (Here before is same made) =
          let moved : slice_get old n ≡ Some before = ap (slice_get old) (sym same) ∙ is in
          subst (λ (i : ℕ). IsInPlace most_depth now i target) (sym same) (placed_here target before moved made)
      placed m target (New k place is) = placed_new k target is m place

      past : (m a : ℕ) → ended_at now m ≡ Some a → a < suc at
      past m a e =
          elim (ended_from m a e) [
            | inl now_ended ↦ omega (arith, now_ended.1)
            | inr ended ↦ omega (arith, grown.past m a ended)
          ]

      keeps : (m : ℕ) (target : ListedTarget) → From old fresh n end m target → (target.q ≤ most_q) × IsKept target.end
      keeps m target (Old is other) = grown.kept m target is
      keeps m target (Here before is same made) =
          subst (λ (t : ListedTarget). (t.q ≤ most_q) × IsKept t.end) (sym made) ((grown.kept m before is).0, ends.keeps)
      keeps m target (New k place is) = (ends.small k target is, subst IsKept (sym (ends.waits k target is)) tt)

-- nothing has ended later than before
pub waits_on : (most_depth : ℕ) (targets : List ListedTarget) (at : ℕ) → IsGrown most_depth targets at → IsGrown most_depth targets (suc at)
waits_on most_depth targets at grown = grind arith

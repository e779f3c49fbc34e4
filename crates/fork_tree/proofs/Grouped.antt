-- The groups under one row, by the rows' numbers.
use Rattle.fork_tree.proofs.Common.{◌≡◌, ℕ, zero, suc, ◌+◌, ◌<◌, ◌≤◌, Bool, true, false, List, [], ◌∷◌, ◌++◌, length, Option, Some, None, slice_get, refl, ap, sym, subst, ◌∙◌, arith, append_assoc, length-append, if◌then◌else◌, append-nil, Row}
use Rattle.fork_tree.proofs.Common.{is_ended, NodePlace, has_ended, Cell, Entry, same, find, above, path_of, row_at, rows_of, number_of, IsPlaced, AreOlder, open_of, AreListed, lies_below, open_below, stripped, put_under, under, IsKnown, IsShape}
use Rattle.fork_tree.proofs.Common.{slice_get_within, there_at, common_steps}
use Rattle.fork_tree.proofs.Traces.{path_below}
use Rattle.fork_tree.proofs.Placed.{same_true, get_row, ended_plain}
use Rattle.fork_tree.proofs.Unders.{stripped_is, find_under, under_twice}
use Rattle.fork_tree.proofs.Chains.{lies_same, GoesOn, on_leads, IsEven, even_to, long, shorter}
use Rattle.fork_tree.proofs.Below.{count_below}

-- ---- the path to the groups under a row, or at the top

abbrev pub path_above : List NodePlace → Option ℕ → List ℕ
path_above all p = above p (path_of all)

-- what stands under the row
abbrev pub level_of : List NodePlace → List Entry → Option ℕ → List Entry
level_of all root p = under (path_above all p) root

pub path_split : (all : List NodePlace) (k : ℕ) (s : NodePlace) → AreOlder all → slice_get all k ≡ Some s → path_of all k ≡ path_above all s.parent ++ s.group ∷ s.place ∷ []
path_split all k s older is = grind (arith, path_below)

pub parent_known : (all : List NodePlace) (k : ℕ) (s : NodePlace) → AreOlder all → slice_get all k ≡ Some s → IsKnown (length all) s.parent
parent_known all k s older is = grind (arith, slice_get_within)

-- two rows have two paths, and neither has that of the top
same_above : (all : List NodePlace) (root : List Entry) (a b : Option ℕ) → IsPlaced all root → IsKnown (length all) a → IsKnown (length all) b → path_above all a ≡ path_above all b → a ≡ b
same_above all root None None placed ka kb e = refl
same_above all root None (Some m) placed ka kb e = let q = there_at all m kb in absurd (omega (arith, long all m q.0 q.1, ap length e))
same_above all root (Some u) None placed ka kb e = let q = there_at all u ka in absurd (omega (arith, long all u q.0 q.1, ap length e))
same_above all root (Some u) (Some m) placed ka kb e = grind arith

both_parts : (a b c d : List ℕ) → a ++ b ≡ c ++ d → length a ≡ length c → (a ≡ c) × (b ≡ d)
both_parts [] b [] d e l = (refl, e)
both_parts [] b (x ∷ c) d e l = absurd (omega (arith, l))
both_parts (x ∷ a) b [] d e l = absurd (omega (arith, l))
both_parts (x ∷ a) b (y ∷ c) d e l =
    let head : x ≡ y = cc in
    let tail : a ++ b ≡ c ++ d = cc in
    let rest = both_parts a b c d tail (omega (arith, l)) in
    (ap (λ z. z ∷ a) head ∙ ap (λ z. y ∷ z) rest.0, rest.1)

-- ---- a branch there, and its row

pub found_at : (all : List NodePlace) (root : List Entry) (k : ℕ) (s : NodePlace) → AreOlder all → slice_get all k ≡ Some s
    → find (level_of all root s.parent) (s.group ∷ s.place ∷ []) ≡ find root (path_of all k)
found_at all root k s older is = find_under (path_above all s.parent) root (s.group ∷ s.place ∷ []) ∙ ap (find root) (sym (path_split all k s older is))

pub numbered : (all : List NodePlace) (root : List Entry) (k : ℕ) (s : NodePlace) → AreOlder all → IsPlaced all root → slice_get all k ≡ Some s
    → number_of (find (level_of all root s.parent) (s.group ∷ s.place ∷ [])) ≡ Some k
numbered all root k s older placed is = ap number_of (found_at all root k s older is) ∙ placed k (slice_get_within all k s is)

listed_path : (all : List NodePlace) (root es : List Entry) (path : List ℕ) (c : Cell) → AreListed all root es → find es path ≡ Some c → (c.number < length all) × (path_of all c.number ≡ path)
listed_path all root [] path c l h = absurd cc
listed_path all root (e ∷ es) path c l h =
    elim (same e.path path) as (λ t. same e.path path ≡ t → (if t then Some e.cell else find es path) ≡ Some c → (c.number < length all) × (path_of all c.number ≡ path)) [
      | true ↦ (λ t k.
          let one : e.cell ≡ c = cc in
          subst (λ (x : Cell). (x.number < length all) × (path_of all x.number ≡ path)) one (l.0.known, sym l.0.path ∙ same_true e.path path t))
      | false ↦ (λ t k. listed_path all root es path c l.1 k)
    ] refl h

-- the branch of this cell stands under this row
pub record StandsAt (all : List NodePlace) (root : List Entry) (p : Option ℕ) (group place : ℕ) (c : Cell) : Type 0 where
  pub there : slice_get all c.number ≡ Some (record { parent = p; group = group; place = place })
  pub found : find root (path_of all c.number) ≡ Some c

pub stands_at : (all : List NodePlace) (root : List Entry) (p : Option ℕ) (group place : ℕ) (c : Cell) → IsShape all root → IsKnown (length all) p
    → find (level_of all root p) (group ∷ place ∷ []) ≡ Some c → StandsAt all root p group place c
stands_at all root p group place c shape known h = at (there_at all c.number path.0)
  where
    found : find root (path_above all p ++ group ∷ place ∷ []) ≡ Some c
    found = sym (find_under (path_above all p) root (group ∷ place ∷ [])) ∙ h

    path : (c.number < length all) × (path_of all c.number ≡ path_above all p ++ group ∷ place ∷ [])
    path = listed_path all root root (path_above all p ++ group ∷ place ∷ []) c shape.listed found

    at : (s : NodePlace) × (slice_get all c.number ≡ Some s) → StandsAt all root p group place c
    at s =
        let whole : path_above all s.0.parent ++ s.0.group ∷ s.0.place ∷ [] ≡ path_above all p ++ group ∷ place ∷ [] = sym (path_split all c.number s.0 shape.older s.1) ∙ path.1 in
        let parts = both_parts (path_above all s.0.parent) (s.0.group ∷ s.0.place ∷ []) (path_above all p) (group ∷ place ∷ []) whole
        (omega (arith, ap length whole, length-append (path_above all s.0.parent) (s.0.group ∷ s.0.place ∷ []), length-append (path_above all p) (group ∷ place ∷ []))) in
        let last : s.0.group ∷ s.0.place ∷ [] ≡ group ∷ place ∷ [] = parts.1 in
        let up : s.0.parent ≡ p = same_above all root s.0.parent p shape.placed (parent_known all c.number s.0 shape.older s.1) known parts.0 in
        let one : s.0.group ≡ group = cc in
        let two : s.0.place ≡ place = cc in
        record {
          there = s.1 ∙ ap (λ (x : Option ℕ). Some (record { parent = x; group = s.0.group; place = s.0.place })) up
              ∙ ap (λ (x : ℕ). Some (record { parent = p; group = x; place = s.0.place })) one
              ∙ ap (λ (x : ℕ). Some (record { parent = p; group = group; place = x })) two;
          found = ap (find root) path.1 ∙ found;
        }

-- ---- a group in which nothing is open

under_fewer : (p : List ℕ) (rows : List Entry) → open_of (under p rows) ≤ open_of rows
under_fewer p [] = omega arith
under_fewer p (e ∷ es) = grind (arith, under_fewer p es)

pub none_in_group : (all : List NodePlace) (root : List Entry) (k : ℕ) (s : NodePlace) → IsShape all root → slice_get all k ≡ Some s
    → open_of (under (s.group ∷ []) (level_of all root s.parent)) ≡ 0 → open_below (rows_of all root) k ≡ 0
none_in_group all root k s shape is none =
    let level = level_of all root s.parent in
    let fewer : open_of (under (s.place ∷ []) (under (s.group ∷ []) level)) ≤ open_of (under (s.group ∷ []) level) = under_fewer (s.place ∷ []) (under (s.group ∷ []) level) in
    grind (arith, common_steps, slice_get_within all k s is, under_twice, path_split, count_below)

-- ---- a group in which something is

-- a branch below this path that has not ended
record IsOpenIn (all : List NodePlace) (root : List Entry) (path : List ℕ) : Type 0 where
  pub number : ℕ
  pub known : number < length all
  pub rest : List ℕ
  pub on : path_of all number ≡ path ++ rest
  pub cell : Cell
  pub found : find root (path_of all number) ≡ Some cell
  pub unended : has_ended cell.standing.state ≡ false

some_open : (all : List NodePlace) (root es : List Entry) (path : List ℕ) → AreListed all root es → 0 < open_of (under path es) → IsOpenIn all root path
some_open all root [] path l h = absurd (omega (arith, h))
some_open all root (e ∷ es) path l h = go (stripped path e.path) refl h (λ t. some_open all root es path l.1 t)
  where
    own : (q : List ℕ) → stripped path e.path ≡ Some q → (b : Bool) → has_ended e.cell.standing.state ≡ b → 0 < (if b then 0 else 1) + open_of (under path es)
        → (0 < open_of (under path es) → IsOpenIn all root path) → IsOpenIn all root path
    own q f true b h again = again (omega (arith, h))
    own q f false b h again =
        record { number = e.cell.number; known = l.0.known; rest = q; on = sym l.0.path ∙ stripped_is path e.path q f; cell = e.cell; found = l.0.found; unended = b }

    go : (o : Option (List ℕ)) → stripped path e.path ≡ o → 0 < open_of (put_under o e (under path es)) → (0 < open_of (under path es) → IsOpenIn all root path)
        → IsOpenIn all root path
    go None f h again = again h
    go (Some q) f h again = own q f (has_ended e.cell.standing.state) refl h again

even_above : (all : List NodePlace) (o : Option ℕ) → IsEven (length (path_above all o))
even_above all None = (0, refl)
even_above all (Some m) = even_to all (suc m) m

-- a row under this one in this group, at row k or above it
record IsAbove (all : List NodePlace) (p : Option ℕ) (group k : ℕ) : Type 0 where
  pub number : ℕ
  pub spot : NodePlace
  pub there : slice_get all number ≡ Some spot
  pub parent : spot.parent ≡ p
  pub group_is : spot.group ≡ group
  pub on : GoesOn all number k

row_above : (all : List NodePlace) (root : List Entry) (p : Option ℕ) (group steps k : ℕ) (q : List ℕ) → IsShape all root → IsKnown (length all) p → k < length all
    → k < steps → path_of all k ≡ path_above all p ++ group ∷ q → IsAbove all p group k
row_above all root p group zero k q shape known lk less e = absurd (omega (arith, less))
row_above all root p group (suc steps) k q shape known lk less e =
    at (there_at all k lk) (λ u x lu fewer f. row_above all root p group steps u x shape known lu fewer f)
  where
    at : (s : NodePlace) × (slice_get all k ≡ Some s) → ((u : ℕ) (x : List ℕ) → u < length all → u < steps → path_of all u ≡ path_above all p ++ group ∷ x → IsAbove all p group u)
        → IsAbove all p group k
    at s again = by q whole sizes e s.0.parent refl
      where
        whole : path_above all s.0.parent ++ s.0.group ∷ s.0.place ∷ [] ≡ path_above all p ++ group ∷ q
        whole = sym (path_split all k s.0 shape.older s.1) ∙ e

        sizes : length (path_above all s.0.parent) + 2 ≡ length (path_above all p) + suc (length q)
        sizes = omega (arith, ap length whole, length-append (path_above all s.0.parent) (s.0.group ∷ s.0.place ∷ []), length-append (path_above all p) (group ∷ q))

        beside : (x : ℕ) → path_above all s.0.parent ++ s.0.group ∷ s.0.place ∷ [] ≡ path_above all p ++ group ∷ x ∷ []
            → length (path_above all s.0.parent) ≡ length (path_above all p) → IsAbove all p group k
        beside x w l =
            let parts = both_parts (path_above all s.0.parent) (s.0.group ∷ s.0.place ∷ []) (path_above all p) (group ∷ x ∷ []) w l in
            let last : s.0.group ∷ s.0.place ∷ [] ≡ group ∷ x ∷ [] = parts.1 in
            record {
              number = k;
              spot = s.0;
              there = s.1;
              parent = same_above all root s.0.parent p shape.placed (parent_known all k s.0 shape.older s.1) known parts.0;
              group_is = cc;
              on = ([], sym (append-nil (path_of all k)));
            }

        up : (x : List ℕ) → 2 ≤ length x → length (path_above all s.0.parent) + 2 ≡ length (path_above all p) + suc (length x) → path_of all k ≡ path_above all p ++ group ∷ x
            → (o : Option ℕ) → s.0.parent ≡ o → IsAbove all p group k
        up x two n f None g =
            let none : length (path_above all s.0.parent) ≡ 0 = ap (λ o. length (path_above all o)) g in absurd (omega (arith, two, n, none))
        up x two n f (Some u) g =
            let low : u < k = shape.older k s.0 u s.1 g in
            let below : path_of all k ≡ path_of all u ++ s.0.group ∷ s.0.place ∷ [] = path_below all k u s.0 shape.older s.1 g in
            let start : path_of all k ≡ (path_above all p ++ group ∷ []) ++ x = f ∙ sym (append_assoc (path_above all p) (group ∷ []) x) in
            let far : length (path_of all u) + 2 ≡ length (path_above all p ++ group ∷ []) + length x =
            omega (arith, ap length below, ap length start, length-append (path_of all u) (s.0.group ∷ s.0.place ∷ []), length-append (path_above all p ++ group ∷ []) x) in
            let rest = shorter (path_of all u) (s.0.group ∷ s.0.place ∷ []) (path_above all p ++ group ∷ []) x (sym below ∙ start) (omega (arith, far, two)) in
            let m : IsAbove all p group u = again u rest.0 (omega (arith, low, lk)) (omega (arith, low, less)) (rest.1 ∙ append_assoc (path_above all p) (group ∷ []) rest.0) in
            record {
              number = m.number;
              spot = m.spot;
              there = m.there;
              parent = m.parent;
              group_is = m.group_is;
              on = (m.on.0 ++ s.0.group ∷ s.0.place ∷ [], below ∙ ap (λ z. z ++ s.0.group ∷ s.0.place ∷ []) m.on.1 ∙ append_assoc (path_of all m.number) m.on.0 (s.0.group ∷ s.0.place ∷ []));
            }

        by : (x : List ℕ) → path_above all s.0.parent ++ s.0.group ∷ s.0.place ∷ [] ≡ path_above all p ++ group ∷ x
            → length (path_above all s.0.parent) + 2 ≡ length (path_above all p) + suc (length x) → path_of all k ≡ path_above all p ++ group ∷ x
            → (o : Option ℕ) → s.0.parent ≡ o → IsAbove all p group k
        by [] w n f o g =
            let a : IsEven (length (path_above all s.0.parent)) = even_above all s.0.parent in
            let b : IsEven (length (path_above all p)) = even_above all p in
            absurd (omega (arith, n, a.1, b.1))
        by (x ∷ []) w n f o g = beside x w (omega (arith, n))
        by (x ∷ y ∷ z) w n f o g = up (x ∷ y ∷ z) (omega arith) n f o g

-- a row under this one in this group that has not ended, or below which one has not
pub record IsOpenGroup (all : List NodePlace) (root : List Entry) (p : Option ℕ) (group : ℕ) : Type 0 where
  pub number : ℕ
  pub spot : NodePlace
  pub there : slice_get all number ≡ Some spot
  pub parent : spot.parent ≡ p
  pub group_is : spot.group ≡ group
  pub open_row : ℕ
  pub row : Row
  pub open_row_there : slice_get (rows_of all root) open_row ≡ Some row
  pub below : lies_below (rows_of all root) number open_row ≡ true
  pub unended : is_ended row.state ≡ false

pub some_in_group : (all : List NodePlace) (root : List Entry) (p : Option ℕ) (group : ℕ) → IsShape all root → IsKnown (length all) p
    → 0 < open_of (under (group ∷ []) (level_of all root p)) → IsOpenGroup all root p group
some_in_group all root p group shape known some =
    record {
      number = m.number;
      spot = m.spot;
      there = m.there;
      parent = m.parent;
      group_is = m.group_is;
      open_row = o.number;
      row = row_at spot.0 (find root (path_of all (0 + o.number)));
      open_row_there = get_row all root 0 o.number all spot.0 spot.1;
      below = lies_same all root m.number o.number
          ∙ on_leads all root m.number o.number o.number shape.older shape.placed (slice_get_within all m.number m.spot m.there) o.known (omega arith) m.on;
      unended = unended;
    }
  where
    o : IsOpenIn all root (path_above all p ++ group ∷ [])
    o = some_open all root root (path_above all p ++ group ∷ []) shape.listed (omega (arith, some, ap open_of (under_twice (path_above all p) (group ∷ []) root)))

    m : IsAbove all p group o.number
    m = row_above all root p group (suc o.number) o.number o.rest shape known o.known (omega arith) (o.on ∙ append_assoc (path_above all p) (group ∷ []) o.rest)

    spot : (s : NodePlace) × (slice_get all o.number ≡ Some s)
    spot = there_at all o.number o.known

    unended : is_ended (row_at spot.0 (find root (path_of all (0 + o.number)))).state ≡ false
    unended =
        let at : 0 + o.number ≡ o.number = omega arith in
        ap (λ k. is_ended (row_at spot.0 (find root (path_of all k))).state) at
        ∙ ap (λ c. is_ended (row_at spot.0 c).state) o.found ∙ ended_plain o.cell.standing.state ∙ o.unended

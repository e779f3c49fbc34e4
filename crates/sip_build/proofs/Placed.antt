-- Bytes that were written at a place, piece by piece.
use Rattle.sip_build.proofs.Common.{◌≡◌, ℕ, ◌+◌, ◌<◌, ◌≤◌, List, [], ◌++◌, length, take, ap, append-nil, append_assoc, arith, subst, flat_map, Placed, get_or, common_steps}
use Rattle.std.proofs.lemmas.List.Folds.{length-flat_map-take}

-- under another name of the text
pub placed-as : (old new : List ℕ) (at end : ℕ) (a b : List ℕ) → Placed old new at a end → a ≡ b → Placed old new at b end
placed-as old new at end a b placed e = subst (λ (x : List ℕ). Placed old new at x end) e placed

-- a text behind another one
pub placed-then : (old mid new : List ℕ) (at next end : ℕ) (a b : List ℕ) → Placed old mid at a next → Placed mid new next b end → Placed old new at (a ++ b) end
placed-then old mid new at next end a b first second = grind (arith, common_steps)

-- the text of the next part fits behind those before it
pub fits-next : {X : Type 0} (text : X → List ℕ) (old mid : List ℕ) (xs : List X) (i at next : ℕ) (d : X) → i < length xs → Placed old mid at (flat_map text (take i xs)) next → at + length (flat_map text xs) ≤ length old → next + length (text (get_or xs i d)) ≤ length mid
fits-next text old mid xs i at next d below placed fits = grind (arith, length-flat_map-take)

-- the same of a part that is read from the list
pub fits-item : {X : Type 0} (text : X → List ℕ) (old mid : List ℕ) (xs : List X) (i at next : ℕ) (x : X) (part : List ℕ) → i < length xs → Placed old mid at (flat_map text (take i xs)) next → at + length (flat_map text xs) ≤ length old → x ≡ get_or xs i x → part ≡ text x → next + length part ≤ length mid
fits-item text old mid xs i at next x part below placed fits is same = grind (arith, fits-next)

-- a text of which some is written, and some is left
pub record Placing (old new : List ℕ) (at : ℕ) (text : List ℕ) (end : ℕ) (left : List ℕ) : Type 0 where
  pub bytes : take end new ++ left ≡ take at old ++ text
  pub moved : end + length left ≡ at + length text
  pub len : length new ≡ length old

-- what stands first of it fits
pub fits-first : (old mid : List ℕ) (at next : ℕ) (text left part more : List ℕ) → Placing old mid at text next left → left ≡ part ++ more → at + length text ≤ length old → next + length part ≤ length mid
fits-first old mid at next text left part more placing first fits = grind (arith, common_steps)

-- and it is left no more where it was written
pub placed-first : (old mid new : List ℕ) (at next end : ℕ) (text left part more : List ℕ) → Placing old mid at text next left → left ≡ part ++ more → Placed mid new next part end → Placing old new at text end more
placed-first old mid new at next end text left part more placing first placed = grind (arith, common_steps, append_assoc)

-- nothing is left
pub placed-all : (old new : List ℕ) (at : ℕ) (text : List ℕ) (end : ℕ) (left : List ℕ) → Placing old new at text end left → left ≡ [] → Placed old new at text end
placed-all old new at text end left placing none = grind (arith, common_steps, append-nil)

-- another name of a text that fits
pub fits-as : (at room : ℕ) (t s : List ℕ) → at + length s ≤ room → t ≡ s → at + length t ≤ room
fits-as at room t s fits e = let same : length t ≡ length s = ap length e in omega (arith, fits, same)

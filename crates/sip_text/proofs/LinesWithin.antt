-- Some of the places that lie within a text do so, too.
use Rattle.std.proofs.Common.{◌≡◌, ℕ, zero, suc, ◌<◌, List, [], ◌∷◌, length, get_or, take, drop, Some, slice_get, arith}
use Rattle.sip_text.specs.declared.place.LinePlaces.{LinePlaces}
use Rattle.sip_text.specs.inner.Within.{AreLinesWithin, IsLineWithin}

pub get_within : (room : ℕ) (lines : List LinePlaces) (place : ℕ) (line : LinePlaces) → AreLinesWithin room lines → slice_get lines place ≡ Some line → IsLineWithin room line
get_within room [] place line all e = absurd cc
get_within room (l ∷ ls) zero line all e = grind (arith, all.0)
get_within room (l ∷ ls) (suc place) line all e = get_within room ls place line all.1 e

pub front_within : (room : ℕ) (lines : List LinePlaces) (place : ℕ) → AreLinesWithin room lines → AreLinesWithin room (take place lines)
front_within room [] zero all = tt
front_within room [] (suc place) all = tt
front_within room (l ∷ ls) zero all = tt
front_within room (l ∷ ls) (suc place) all = (all.0, front_within room ls place all.1)

pub back_within : (room : ℕ) (lines : List LinePlaces) (place : ℕ) → AreLinesWithin room lines → AreLinesWithin room (drop place lines)
back_within room [] zero all = tt
back_within room [] (suc place) all = tt
back_within room (l ∷ ls) zero all = all
back_within room (l ∷ ls) (suc place) all = back_within room ls place all.1

pub within_at : (room : ℕ) (lines : List LinePlaces) (i : ℕ) (default : LinePlaces) → AreLinesWithin room lines → i < length lines → IsLineWithin room (get_or lines i default)
within_at room [] i default all lt = absurd (omega arith)
within_at room (l ∷ ls) zero default all lt = all.0
within_at room (l ∷ ls) (suc i) default all lt = within_at room ls i default all.1 (omega arith)

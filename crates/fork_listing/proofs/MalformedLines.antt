-- A text that is no listing is refused by the number of its first line that is not of the form due in its place.
use Rattle.fork_listing.proofs.Common.{◌≡◌, ℕ, ◌<◌, length, Option, None, Err, arith, slice_split, join_with_byte-slice_split, is, Line, Listing, Draft, no_draft, drafted_line, or_line, common_steps}
use Rattle.std.proofs.lemmas.List.Splits.{length-slice_split}
use Rattle.sip_lex.proofs.laws.Splits.{pieces_lack}
use Rattle.fork_listing.specs.Text.{phase_after, read_listing}
use Rattle.fork_listing.specs.Spelled.{RefusedByFirst}
use Rattle.fork_rank.proofs.laws.Lines.{malformed}
use Rattle.fork_listing.proofs.SpelledListings.{reader}

nothing_due : (number : ℕ) (o : Option Listing) → or_line number o ≡ Err number → o ≡ None
nothing_due number o e = grind arith

not_due : (draft : Draft) (line : Line) → drafted_line draft line ≡ None → phase_after draft.phase line ≡ None
not_due draft line e = grind arith

pub refused_by_first : RefusedByFirst
unfolding read_listing
refused_by_first text number e =
    let some : 0 < length (slice_split (is 10) text) = omega (arith, length-slice_split (is 10) text) in
    grind (arith, common_steps, malformed reader 1 no_draft (slice_split (is 10) text) number some (pieces_lack 10 text) e, join_with_byte-slice_split 10 text, reader, pieces_lack, not_due, nothing_due)

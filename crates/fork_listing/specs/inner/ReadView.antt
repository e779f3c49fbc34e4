-- What reading a listing gives, want of memory aside.
use Rattle.std.specs.Prelude.{◌≡◌, ℕ, Result, Ok, Err}
use Rattle.fork_listing.specs.declared.draft.ListingFault.{ListingFault}
use Rattle.fork_listing.specs.declared.draft.ListingFault.TheVariants as read
use Rattle.fork_listing.specs.Text.{Listing}

abbrev pub GivesListing : Result Listing ℕ → Result Listing ListingFault → Type 0
GivesListing expected (Ok listing) = expected ≡ Ok listing
GivesListing expected (Err (read.Line number)) = expected ≡ Err number
GivesListing expected (Err read.NoMemory) = Unit {0}

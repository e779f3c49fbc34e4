-- A listing that is read has no more branches than a fork.
use Rattle.fork_listing.proofs.Common.{◌≡◌, ◌≤◌, ℕ, List, length, Ok, arith, most_targets, Version, most_listed, Listing, read_listing, common_steps}
use Rattle.fork_listing.proofs.SpelledListings.{listing_found}

few_listed : (version : Version) → most_listed version ≤ most_targets
few_listed version = grind arith

pub few_read : (text : List ℕ) (l : Listing) → read_listing text ≡ Ok l → length l.targets ≤ most_targets
few_read text l read = grind (arith, common_steps, listing_found text l read, few_listed)

-- What is listed is determined (RFC 3261 section 16.7 step 6).
use Rattle.std.specs.Prelude.{◌≡◌, ℕ, List}
use Rattle.fork_model.specs.Table.{Table}
use Rattle.fork_model.specs.OneReply.{AreArrivals}
use Rattle.fork_listing.specs.declared.line.Ranked.{Ranked}
use Rattle.fork_listing.specs.Ranking.{IsRanking}
use Rattle.fork_listing.specs.Listed.{targets_of, IsListingOf}

-- what is stored stands in one order of rank, where the answers arrived apart, as those of every history did
abbrev pub OneRanking : Type 0
OneRanking =
    (t : Table) (at : ℕ) (a b : List Ranked) → AreArrivals t.rows at
    → IsRanking t.rules (targets_of t.rows) a → IsRanking t.rules (targets_of t.rows) b → a ≡ b

-- so such a table has one listing
abbrev pub OneListing : Type 0
OneListing = (t : Table) (at : ℕ) (a b : List ℕ) → AreArrivals t.rows at → IsListingOf t a → IsListingOf t b → a ≡ b

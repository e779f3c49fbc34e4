-- Where rows go that are tried by falling q, those of one q together (RFC 3261 section 16.6).
-- Here: what no public contract reaches.
use Rattle.std.specs.Prelude.{ℕ, Option}
use Rattle.fork_tree.specs.declared.new_row.NewRow.{NewRow}
use Rattle.fork_tree.specs.declared.place.NodePlace.{NodePlace}

abbrev pub place_in : Option ℕ → NewRow → NodePlace
place_in parent new_row = record { parent = parent; group = new_row.group; place = new_row.place }

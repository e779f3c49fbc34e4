-- A tree of branches as callers see it: the rules, and a row for each branch, the row's number being its place in the
-- list. Keys, places, contacts and challenges stand beside the tree, so its rows have none.
-- Here: what no public contract reaches.
use Rattle.std.specs.Prelude.{Bool, not}
use Rattle.fork_model.specs.Table as spec
use Rattle.fork_model.specs.Table.{is_ended}

abbrev pub is_unended : spec.State → Bool
is_unended state = not (is_ended state)

-- TreeRoom for rows that are still to come.
use Rattle.std.specs.Prelude.{◌≡◌, ◌<◌, ◌≤◌, ◌+◌, ◌*◌, ℕ, [], vec_capacity}
use Rattle.fork_tree.specs.declared.place.TreeRoom.{TreeRoom}

-- empty lists, which have room for what is kept of so many rows, the top counted as one
pub record HasRoom {A : Type 0} (room : TreeRoom A) (rows : ℕ) : Type 0 where
  pub no_places : room.places.items ≡ []
  pub no_path : room.path.items ≡ []
  pub no_recent : room.recent.items ≡ []
  pub places : rows ≤ vec_capacity room.places
  pub path : 2 * rows ≤ vec_capacity room.path
  pub recent : rows ≤ vec_capacity room.recent

-- such lists; where no rows come, they need no room
pub record HasRoomFor {A : Type 0} (room : TreeRoom A) (first count : ℕ) : Type 0 where
  pub rows : ℕ
  pub has : HasRoom room rows
  pub enough : 0 < count → first + count + 1 ≤ rows

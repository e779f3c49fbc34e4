-- In which of the shards a user stands.
use Rattle.std.specs.Prelude.{ℕ, ◌%◌, List}
use Rattle.std.specs.Hash.FoldHasher.{initial, write, finish}

abbrev pub shards : ℕ
shards = 64

-- by the kit's hash of the name
abbrev pub shard_of : List ℕ → ℕ
shard_of user = finish (write initial user) % shards

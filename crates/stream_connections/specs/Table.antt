-- The connections of a proxy (RFC 3261 section 18).
use Rattle.std.specs.Prelude.{◌≡◌, ℕ, ◌+◌, ◌*◌, ◌≤◌, ◌<◌, Bool, true, false, ◌&&◌, ◌||◌, nat_le, nat_lt, List, length, Option, Some, None, is_some, option_map, ◌==◌}
use Rattle.std.specs.BTreeMap.{is_at}
use Rattle.std.specs.Int.{from_be_bytes, w32}
use Rattle.std.specs.List.{count_by}
use Rattle.std.specs.Map.{lookup, values_of}
use Rattle.std.specs.Ordering.{nat_cmp}
use Rattle.sip_uri.specs.declared.hop.Hop.{Hop}
use Rattle.stream_connections.specs.Sources.{Sources, count_of}
use Rattle.stream_connections.specs.declared.table.Opener.{Opener}
use Rattle.stream_connections.specs.declared.table.Opener.TheVariants.{Peer, Proxy}
use Rattle.stream_connections.specs.declared.table.TableEntry.{TableEntry}

-- the address and the port of a hop as one number
abbrev pub peer_number : Hop → ℕ
peer_number hop = from_be_bytes w32 hop.addr * 65536 + hop.port

pub record Table (C : Type 0) : Type 0 where
  -- no more connections are kept
  pub most : ℕ
  -- the number of the next one
  pub next : ℕ
  -- each by its number
  pub connections : List (ℕ × TableEntry C)
  -- by which connection messages go to a peer
  pub peers : List (ℕ × ℕ)
  pub sources : Sources

abbrev pub is_of_peer : Opener → Bool
is_of_peer Peer = true
is_of_peer Proxy = false

-- for how many it counts at its address
abbrev pub weight : Opener → ℕ
weight Peer = 1
weight Proxy = 0

-- an address may open as many as there may be; the proxy may always
abbrev pub may_open : Sources → Opener → ℕ → Bool
may_open s Peer source = nat_lt (count_of s source) s.most
may_open s Proxy source = true

-- no number is given out behind this one
abbrev pub last_number : ℕ
last_number = 18446744073709551615

-- the number of the address of a hop
abbrev pub source_number : Hop → ℕ
source_number hop = from_be_bytes w32 hop.addr

module _ {C : Type 0} where
  -- as many are kept as may be
  abbrev pub is_full : Table C → Bool
  is_full t = nat_le t.most (length t.connections) || (t.next == last_number)

  abbrev pub entry_of : Table C → ℕ → Option (TableEntry C)
  entry_of t number = lookup (is_at (nat_cmp number)) t.connections

  abbrev pub number_of : Table C → ℕ → Option ℕ
  number_of t peer = lookup (is_at (nat_cmp peer)) t.peers

  -- opened by this address
  abbrev pub is_from : ℕ → TableEntry C → Bool
  is_from source e = is_of_peer e.opener && (e.source == source)

  abbrev pub opened_by : ℕ → Table C → ℕ
  opened_by source t = count_by (is_from source) (values_of t.connections)

  abbrev pub connection_in : TableEntry C → C
  connection_in e = e.connection

  abbrev pub peer_in : TableEntry C → ℕ
  peer_in e = e.peer

  -- the connection of this number
  abbrev pub connection_of : Table C → ℕ → Option C
  connection_of t number = option_map connection_in (entry_of t number)

  -- the first number behind this one that a connection has; none where none has one behind it
  abbrev pub IsNextBehind : Table C → ℕ → Option ℕ → Type 0
  IsNextBehind t number (Some next) =
      (number < next) × (is_some (connection_of t next) ≡ true) × ((m : ℕ) → number < m → m < next → connection_of t m ≡ None)
  IsNextBehind t number None = (m : ℕ) → number < m → connection_of t m ≡ None

  -- No number is given out twice; who has a peer is there, with that peer; and as many count for an address as it opened.
  pub record IsSound (t : Table C) : Type 0 where
    pub few : length t.connections ≤ t.most
    pub fresh : (number : ℕ) → is_some (entry_of t number) ≡ true → number < t.next
    pub named : (peer number : ℕ) → number_of t peer ≡ Some number → option_map peer_in (entry_of t number) ≡ Some peer
    pub counted : (source : ℕ) → count_of t.sources source ≡ opened_by source t

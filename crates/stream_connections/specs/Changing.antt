-- What becomes of the connections of a proxy.
use Rattle.std.specs.Prelude.{◌≡◌, ◌≢◌, ℕ, ◌+◌, true, false, Some}
use Rattle.std.specs.BTreeMap.{insert_entry, is_at}
use Rattle.std.specs.Map.{remove_entry}
use Rattle.std.specs.Ordering.{nat_cmp}
use Rattle.sip_uri.specs.declared.hop.Hop.{Hop}
use Rattle.stream_connections.specs.Sources.{HasNow, IsSame, Sources, count_of}
use Rattle.stream_connections.specs.Table.{Table, is_full, may_open, number_of, peer_number, source_number, weight}
use Rattle.stream_connections.specs.declared.table.Opener.{Opener}
use Rattle.stream_connections.specs.declared.table.TableFault.{TableFault}
use Rattle.stream_connections.specs.declared.table.TableFault.TheVariants as faults

-- why a connection is not counted for its address
abbrev pub IsSourceFault : Sources → Opener → ℕ → TableFault → Type 0
IsSourceFault s who source faults.Full = ⊥
IsSourceFault s who source faults.SourceFull = may_open s who source ≡ false
IsSourceFault s who source faults.NoMemory = may_open s who source ≡ true

module _ {C : Type 0} where
  -- a connection stands under the next number, with its peer
  pub record IsAdded (old : Table C) (number : ℕ) (hop : Hop) (opener : Opener) (connection : C) (new : Table C) : Type 0 where
    pub was : number ≡ old.next
    pub next : new.next ≡ number + 1
    pub most : new.most ≡ old.most
    pub connections : new.connections ≡ insert_entry nat_cmp old.connections number
        (record { peer = peer_number hop; source = source_number hop; opener = opener; connection = connection })
    pub peers : new.peers ≡ insert_entry nat_cmp old.peers (peer_number hop) number
    pub sources : HasNow old.sources (source_number hop) (count_of old.sources (source_number hop) + weight opener) new.sources

  -- the connection of a number stands there no more; what goes to other connections goes to them still, and nothing else does
  pub record IsRemoved (old : Table C) (number : ℕ) (new : Table C) : Type 0 where
    pub next : new.next ≡ old.next
    pub most : new.most ≡ old.most
    pub connections : new.connections ≡ remove_entry (is_at (nat_cmp number)) old.connections
    pub peers : (peer other : ℕ) → other ≢ number → number_of old peer ≡ Some other → number_of new peer ≡ Some other
    pub no_others : (peer other : ℕ) → number_of new peer ≡ Some other → number_of old peer ≡ Some other
    pub most_of_source : new.sources.most ≡ old.sources.most

  pub record IsUnchanged (old new : Table C) : Type 0 where
    pub next : new.next ≡ old.next
    pub most : new.most ≡ old.most
    pub connections : new.connections ≡ old.connections
    pub peers : new.peers ≡ old.peers
    pub sources : IsSame old.sources new.sources

  -- one more may be kept, of this hop
  abbrev pub IsFree : Table C → Hop → Opener → Type 0
  IsFree t hop who = (is_full t ≡ false) × (may_open t.sources who (source_number hop) ≡ true)

  -- why a connection is not kept
  abbrev pub IsRefusedBy : Table C → Hop → Opener → TableFault → Type 0
  IsRefusedBy t hop who faults.Full = is_full t ≡ true
  IsRefusedBy t hop who faults.SourceFull = (is_full t ≡ false) × (may_open t.sources who (source_number hop) ≡ false)
  IsRefusedBy t hop who faults.NoMemory = IsFree t hop who

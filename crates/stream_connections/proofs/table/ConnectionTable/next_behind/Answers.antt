use Rattle.std.proofs.Common.{refl}
use Rattle.stream_connections.specs.Table.{Table}
use Rattle.stream_connections.proofs.Behind.{first_is_next, none_is_next}
use Rattle.stream_connections.proofs.table.ConnectionTable.next_behind.Goals as goal

pub returns-in-Some : goal.returns-in-Some
returns-in-Some g c =
    let t : Table g.row.C.Denot = record { most = c.self.inside.most; next = c.self.inside.next; connections = c.self.inside.connections.entries; peers = c.self.inside.peers.entries; sources = c.self.inside.sources } in
    first_is_next t c.args.self.now c.self.view_is c.self.inside.connections refl c.args.number _ _ _ (c.range.ensures.in_range tt) c.in-Some.ensures.steps

pub returns-in-None : goal.returns-in-None
returns-in-None g c =
    let t : Table g.row.C.Denot = record { most = c.self.inside.most; next = c.self.inside.next; connections = c.self.inside.connections.entries; peers = c.self.inside.peers.entries; sources = c.self.inside.sources } in
    none_is_next t c.args.self.now c.self.view_is c.self.inside.connections refl c.args.number _ (c.range.ensures.in_range tt) c.in-None.ensures.steps.0

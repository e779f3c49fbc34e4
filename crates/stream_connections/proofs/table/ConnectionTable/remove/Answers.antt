use Rattle.std.proofs.Common.{◌≡◌, ◌≤◌, Some, arith, length, refl, sym}
use Rattle.std.specs.BTreeMap.{is_at}
use Rattle.std.specs.Map.{lookup}
use Rattle.std.specs.Ordering.{nat_cmp}
use Rattle.stream_connections.specs.Table.{Table}
use Rattle.stream_connections.proofs.Tables.{gone_after, is_removed, others_after, sound_taken, sound_unkept, value_taken}
use Rattle.stream_connections.proofs.table.ConnectionTable.remove.Goals as goal

pub invariant_of-self : goal.invariant_of-self
invariant_of-self g c =
    let t : Table g.row.C.Denot = record { most = c.self.inside.most; next = c.self.inside.next; connections = c.self.inside.connections.entries; peers = c.self.inside.peers.entries; sources = c.self.inside.sources } in
    sound_unkept t c.remove.new.self.entries c.self.inside.peers.entries c.self.inside.sources c.self.invariant c.in_err-entry.ensures.unchanged refl (refl, λ _. refl)

pub returns-in_err-entry-clause-removed : goal.returns-in_err-entry-clause-removed
returns-in_err-entry-clause-removed g c =
    let t : Table g.row.C.Denot = record { most = c.self.inside.most; next = c.self.inside.next; connections = c.self.inside.connections.entries; peers = c.self.inside.peers.entries; sources = c.self.inside.sources } in
    is_removed t c.args.self.now c.args.number c.remove.new.self.entries c.self.inside.peers.entries c.self.inside.sources c.self.view_is c.remove.ensures.entries (λ p m apart there. there) (λ p m there. there) refl

pub returns-in_err-entry-clause-gone : goal.returns-in_err-entry-clause-gone
returns-in_err-entry-clause-gone g c = gone_after c.args.number c.remove.new.self.entries c.remove.ensures.updates.1

pub returns-in_err-entry-clause-others : goal.returns-in_err-entry-clause-others
returns-in_err-entry-clause-others g c =
    let t : Table g.row.C.Denot = record { most = c.self.inside.most; next = c.self.inside.next; connections = c.self.inside.connections.entries; peers = c.self.inside.peers.entries; sources = c.self.inside.sources } in
    others_after t c.args.self.now c.args.number c.remove.new.self.entries c.self.view_is c.remove.ensures.updates.2

pub invariant_of-self-2 : goal.invariant_of-self-2
invariant_of-self-2 g c =
    let t : Table g.row.C.Denot = record { most = c.self.inside.most; next = c.self.inside.next; connections = c.self.inside.connections.entries; peers = c.self.inside.peers.entries; sources = c.self.inside.sources } in
    let is : lookup (is_at (nat_cmp c.args.number)) c.self.inside.connections.entries ≡ Some c.in_ok-entry.entry = sym c.in_ok-entry.ensures.value in
    let fewer : length c.remove.new.self.entries ≤ length c.self.inside.connections.entries = omega (arith, c.remove.ensures.len) in
    sound_taken t c.args.number c.in_ok-entry.entry c.remove.new.self.entries c.forget_peer.new.peers.entries c.count_closed.new.sources c.self.invariant is c.remove.ensures.entries fewer
    c.remove.ensures.updates.1 c.remove.ensures.updates.2 c.forget_peer.ensures.gone c.forget_peer.ensures.only c.count_closed.ensures

pub returns-clause-value : goal.returns-clause-value
returns-clause-value g c =
    let t : Table g.row.C.Denot = record { most = c.self.inside.most; next = c.self.inside.next; connections = c.self.inside.connections.entries; peers = c.self.inside.peers.entries; sources = c.self.inside.sources } in
    value_taken t c.args.self.now c.args.number c.in_ok-entry.entry c.self.view_is (sym c.in_ok-entry.ensures.value)

pub returns-clause-removed : goal.returns-clause-removed
returns-clause-removed g c =
    let t : Table g.row.C.Denot = record { most = c.self.inside.most; next = c.self.inside.next; connections = c.self.inside.connections.entries; peers = c.self.inside.peers.entries; sources = c.self.inside.sources } in
    is_removed t c.args.self.now c.args.number c.remove.new.self.entries c.forget_peer.new.peers.entries c.count_closed.new.sources c.self.view_is c.remove.ensures.entries c.forget_peer.ensures.stays c.forget_peer.ensures.only c.count_closed.ensures.0

pub returns-clause-gone : goal.returns-clause-gone
returns-clause-gone g c = gone_after c.args.number c.remove.new.self.entries c.remove.ensures.updates.1

pub returns-clause-others : goal.returns-clause-others
returns-clause-others g c =
    let t : Table g.row.C.Denot = record { most = c.self.inside.most; next = c.self.inside.next; connections = c.self.inside.connections.entries; peers = c.self.inside.peers.entries; sources = c.self.inside.sources } in
    others_after t c.args.self.now c.args.number c.remove.new.self.entries c.self.view_is c.remove.ensures.updates.2

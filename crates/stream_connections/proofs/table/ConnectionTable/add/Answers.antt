use Rattle.std.proofs.Common.{◌≡◌, ◌∙◌, ◌+◌, ◌<◌, ◌^◌, arith, false, refl, subst, sym}
use Rattle.std.specs.BTreeMap.{insert_entry}
use Rattle.std.specs.Ordering.{nat_cmp}
use Rattle.stream_connections.specs.Table.{Table, is_full}
use Rattle.stream_connections.proofs.Tables.{added_is_named, added_is_there, entry_with, free_at, has_number, has_room, is_added_at, is_unchanged, next_is_free, others_stay_there, refused_at, sound_kept, sound_unkept}
use Rattle.stream_connections.proofs.table.ConnectionTable.add.Goals as goal

pub returns-then-is_full-clause-err : goal.returns-then-is_full-clause-err
returns-then-is_full-clause-err g c = record { next = refl; most = refl; connections = refl; peers = refl; sources = (refl, λ _. refl) }

pub keep_counted-kept-requires : goal.keep_counted-kept-requires
keep_counted-kept-requires g c =
    let t : Table g.row.C.Denot = record { most = c.self.inside.most; next = c.self.inside.next; connections = c.self.inside.connections.entries; peers = c.self.inside.peers.entries; sources = c.self.inside.sources } in
    next_is_free t c.self.invariant

pub overflow_add-self : goal.overflow_add-self
overflow_add-self g c =
    let t : Table g.row.C.Denot = record { most = c.self.inside.most; next = c.self.inside.next; connections = c.self.inside.connections.entries; peers = c.self.inside.peers.entries; sources = c.self.inside.sources } in
    let F : Table g.row.C.Denot → Type 0 = λ o. is_full o ≡ false in
    let free : is_full t ≡ false = subst F (sym c.self.view_is) (sym c.is_full.ensures ∙ c.if-is_full.false) in
    let more : c.self.inside.next + 1 < 2 ^ 64 = has_number t free (omega arith) in
    omega (arith, more)

pub invariant_of-self : goal.invariant_of-self
invariant_of-self g c =
    let t : Table g.row.C.Denot = record { most = c.self.inside.most; next = c.self.inside.next; connections = c.self.inside.connections.entries; peers = c.self.inside.peers.entries; sources = c.self.inside.sources } in
    let F : Table g.row.C.Denot → Type 0 = λ o. is_full o ≡ false in
    let free : is_full t ≡ false = subst F (sym c.self.view_is) (sym c.is_full.ensures ∙ c.if-is_full.false) in
    let kept : c.keep_counted-kept.new.connections.entries ≡ insert_entry nat_cmp c.self.inside.connections.entries c.self.inside.next (entry_with c.args.opener c.args.connection c.peer_number.result c.from_be_bytes.result) = c.in-Ok.ensures.kept in
    let named : c.keep_counted-kept.new.peers.entries ≡ insert_entry nat_cmp c.self.inside.peers.entries c.peer_number.result c.self.inside.next = c.in-Ok.ensures.named in
    sound_kept t (entry_with c.args.opener c.args.connection c.peer_number.result c.from_be_bytes.result) c.keep_counted-kept.new.connections.entries c.keep_counted-kept.new.peers.entries c.keep_counted-kept.new.sources
    c.self.invariant (has_room t free) kept named c.in-Ok.ensures.counted

pub invariant_of-self-in-Err : goal.invariant_of-self-in-Err
invariant_of-self-in-Err g c =
    let t : Table g.row.C.Denot = record { most = c.self.inside.most; next = c.self.inside.next; connections = c.self.inside.connections.entries; peers = c.self.inside.peers.entries; sources = c.self.inside.sources } in
    sound_unkept t c.keep_counted-kept.new.connections.entries c.keep_counted-kept.new.peers.entries c.keep_counted-kept.new.sources c.self.invariant c.in-Err.ensures.unkept c.in-Err.ensures.unnamed c.in-Err.ensures.uncounted

pub returns-in-Ok-clause-added : goal.returns-in-Ok-clause-added
returns-in-Ok-clause-added g c =
    let t : Table g.row.C.Denot = record { most = c.self.inside.most; next = c.self.inside.next; connections = c.self.inside.connections.entries; peers = c.self.inside.peers.entries; sources = c.self.inside.sources } in
    let kept : c.keep_counted-kept.new.connections.entries ≡ insert_entry nat_cmp c.self.inside.connections.entries c.self.inside.next (entry_with c.args.opener c.args.connection c.peer_number.result c.from_be_bytes.result) = c.in-Ok.ensures.kept in
    let named : c.keep_counted-kept.new.peers.entries ≡ insert_entry nat_cmp c.self.inside.peers.entries c.peer_number.result c.self.inside.next = c.in-Ok.ensures.named in
    let added = is_added_at t c.args.self.now c.args.hop c.args.opener c.args.connection c.peer_number.result c.from_be_bytes.result c.peer_number.ensures c.from_be_bytes.ensures
    c.keep_counted-kept.new.connections.entries c.keep_counted-kept.new.peers.entries c.keep_counted-kept.new.sources c.self.view_is kept named c.in-Ok.ensures.counted in
    added

pub returns-in-Ok-clause-there : goal.returns-in-Ok-clause-there
returns-in-Ok-clause-there g c =
    let t : Table g.row.C.Denot = record { most = c.self.inside.most; next = c.self.inside.next; connections = c.self.inside.connections.entries; peers = c.self.inside.peers.entries; sources = c.self.inside.sources } in
    let kept : c.keep_counted-kept.new.connections.entries ≡ insert_entry nat_cmp c.self.inside.connections.entries c.self.inside.next (entry_with c.args.opener c.args.connection c.peer_number.result c.from_be_bytes.result) = c.in-Ok.ensures.kept in
    let named : c.keep_counted-kept.new.peers.entries ≡ insert_entry nat_cmp c.self.inside.peers.entries c.peer_number.result c.self.inside.next = c.in-Ok.ensures.named in
    let added = is_added_at t c.args.self.now c.args.hop c.args.opener c.args.connection c.peer_number.result c.from_be_bytes.result c.peer_number.ensures c.from_be_bytes.ensures
    c.keep_counted-kept.new.connections.entries c.keep_counted-kept.new.peers.entries c.keep_counted-kept.new.sources c.self.view_is kept named c.in-Ok.ensures.counted in
    added_is_there c.args.self.now (record { most = c.self.inside.most; next = c.self.inside.next + 1; connections = c.keep_counted-kept.new.connections.entries; peers = c.keep_counted-kept.new.peers.entries; sources = c.keep_counted-kept.new.sources }) c.self.inside.next c.args.hop c.args.opener c.args.connection added

pub returns-in-Ok-clause-named : goal.returns-in-Ok-clause-named
returns-in-Ok-clause-named g c =
    let t : Table g.row.C.Denot = record { most = c.self.inside.most; next = c.self.inside.next; connections = c.self.inside.connections.entries; peers = c.self.inside.peers.entries; sources = c.self.inside.sources } in
    let kept : c.keep_counted-kept.new.connections.entries ≡ insert_entry nat_cmp c.self.inside.connections.entries c.self.inside.next (entry_with c.args.opener c.args.connection c.peer_number.result c.from_be_bytes.result) = c.in-Ok.ensures.kept in
    let named : c.keep_counted-kept.new.peers.entries ≡ insert_entry nat_cmp c.self.inside.peers.entries c.peer_number.result c.self.inside.next = c.in-Ok.ensures.named in
    let added = is_added_at t c.args.self.now c.args.hop c.args.opener c.args.connection c.peer_number.result c.from_be_bytes.result c.peer_number.ensures c.from_be_bytes.ensures
    c.keep_counted-kept.new.connections.entries c.keep_counted-kept.new.peers.entries c.keep_counted-kept.new.sources c.self.view_is kept named c.in-Ok.ensures.counted in
    added_is_named c.args.self.now (record { most = c.self.inside.most; next = c.self.inside.next + 1; connections = c.keep_counted-kept.new.connections.entries; peers = c.keep_counted-kept.new.peers.entries; sources = c.keep_counted-kept.new.sources }) c.self.inside.next c.args.hop c.args.opener c.args.connection added

pub returns-in-Ok-clause-others : goal.returns-in-Ok-clause-others
returns-in-Ok-clause-others g c =
    let t : Table g.row.C.Denot = record { most = c.self.inside.most; next = c.self.inside.next; connections = c.self.inside.connections.entries; peers = c.self.inside.peers.entries; sources = c.self.inside.sources } in
    let kept : c.keep_counted-kept.new.connections.entries ≡ insert_entry nat_cmp c.self.inside.connections.entries c.self.inside.next (entry_with c.args.opener c.args.connection c.peer_number.result c.from_be_bytes.result) = c.in-Ok.ensures.kept in
    let named : c.keep_counted-kept.new.peers.entries ≡ insert_entry nat_cmp c.self.inside.peers.entries c.peer_number.result c.self.inside.next = c.in-Ok.ensures.named in
    let added = is_added_at t c.args.self.now c.args.hop c.args.opener c.args.connection c.peer_number.result c.from_be_bytes.result c.peer_number.ensures c.from_be_bytes.ensures
    c.keep_counted-kept.new.connections.entries c.keep_counted-kept.new.peers.entries c.keep_counted-kept.new.sources c.self.view_is kept named c.in-Ok.ensures.counted in
    others_stay_there c.args.self.now (record { most = c.self.inside.most; next = c.self.inside.next + 1; connections = c.keep_counted-kept.new.connections.entries; peers = c.keep_counted-kept.new.peers.entries; sources = c.keep_counted-kept.new.sources }) c.self.inside.next c.args.hop c.args.opener c.args.connection added

pub returns-in-Ok-clause-allowed : goal.returns-in-Ok-clause-allowed
returns-in-Ok-clause-allowed g c =
    let t : Table g.row.C.Denot = record { most = c.self.inside.most; next = c.self.inside.next; connections = c.self.inside.connections.entries; peers = c.self.inside.peers.entries; sources = c.self.inside.sources } in
    let F : Table g.row.C.Denot → Type 0 = λ o. is_full o ≡ false in
    let free : is_full t ≡ false = subst F (sym c.self.view_is) (sym c.is_full.ensures ∙ c.if-is_full.false) in
    free_at t c.args.self.now c.args.hop c.args.opener c.from_be_bytes.result c.self.view_is c.from_be_bytes.ensures free c.in-Ok.ensures.allowed

pub returns-in-Err-clause-fault : goal.returns-in-Err-clause-fault
returns-in-Err-clause-fault g c =
    let t : Table g.row.C.Denot = record { most = c.self.inside.most; next = c.self.inside.next; connections = c.self.inside.connections.entries; peers = c.self.inside.peers.entries; sources = c.self.inside.sources } in
    let F : Table g.row.C.Denot → Type 0 = λ o. is_full o ≡ false in
    let free : is_full t ≡ false = subst F (sym c.self.view_is) (sym c.is_full.ensures ∙ c.if-is_full.false) in
    refused_at t c.args.self.now c.args.hop c.args.opener c.from_be_bytes.result _ c.self.view_is c.from_be_bytes.ensures free c.in-Err.ensures.fault

pub returns-in-Err-clause-err : goal.returns-in-Err-clause-err
returns-in-Err-clause-err g c =
    let t : Table g.row.C.Denot = record { most = c.self.inside.most; next = c.self.inside.next; connections = c.self.inside.connections.entries; peers = c.self.inside.peers.entries; sources = c.self.inside.sources } in
    is_unchanged t c.args.self.now c.keep_counted-kept.new.connections.entries c.keep_counted-kept.new.peers.entries c.keep_counted-kept.new.sources c.self.view_is c.in-Err.ensures.unkept c.in-Err.ensures.unnamed c.in-Err.ensures.uncounted

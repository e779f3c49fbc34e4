use Rattle.std.proofs.Common.{◌≡◌, rules, subst}
use Rattle.stream_connections.specs.Table.{IsSound, Table, number_of}
use Rattle.stream_connections.proofs.Tables.{there_of}
use Rattle.stream_connections.proofs.table.ConnectionTable.number_of.Goals as goal

pub returns-clause-there : goal.returns-clause-there
returns-clause-there g c =
    let P : Table g.row.C.Denot → Type 0 = λ t. IsSound t in
    let value : c.copied.result ≡ number_of c.args.self.now c.args.peer = search rules in
    there_of c.args.self.now c.args.peer c.copied.result (subst P c.self.view_is c.self.invariant) value

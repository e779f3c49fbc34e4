-- A datagram in memory.
use Rattle.call_model.specs.Built as built
use Rattle.call_model.specs.declared.datagram.Datagram.{Datagram}

abbrev pub seen : {A : Type 0} → Datagram A → built.Datagram
seen d = record { to = d.to; bytes = d.bytes.items; cause = d.cause }

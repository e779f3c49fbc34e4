-- What the proxy sends without a call (RFC 3261 sections 8.2.6, 16.11 and 18.2.2).
-- Here: what no public contract reaches.
use Rattle.std.specs.Prelude.{Option, Some, None}
use Rattle.call_model.specs.Built.{Datagram}
use Rattle.call_model.specs.declared.datagram.Datagram as memory
use Rattle.call_model.specs.SeenDatagram.{seen}

-- ---- in memory

abbrev pub seen_sent : {A : Type 0} → Option (memory.Datagram A) → Option Datagram
seen_sent None = None
seen_sent (Some datagram) = Some (seen datagram)

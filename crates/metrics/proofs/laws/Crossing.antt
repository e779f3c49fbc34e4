-- Threads may share the counters, the marks and the socket of a proxy, and what a lock holds of its places.
use denote.Param.Send.{IsSync}
use Rattle.metrics.proofs.counts.Counts.TheSendSync as made_counts
use Rattle.metrics.specs.contracts.counts.Counts as counts

pub counts_sync : IsSync counts.the_field.row
counts_sync = made_counts.the_field_sync

-- The parts of a Via value in memory, as lists.
use Rattle.std.specs.Option.{option_copied}
use Rattle.sip_via.specs.declared.cut.ViaParts.{ViaParts}
use Rattle.sip_via.specs.ViaParts.{Parts}

abbrev pub seen_parts : ViaParts → Parts
seen_parts c = record { protocol = c.protocol.now; version = c.version.now; transport = c.transport.now; host = c.host.now; port = option_copied c.port; params = option_copied c.params }

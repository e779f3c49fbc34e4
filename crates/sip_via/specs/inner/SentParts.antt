-- The parts of a Via value whose protocol, version and transport are known.
use Rattle.std.specs.Prelude.{ℕ, false, List, take, drop}
use Rattle.sip_lex.specs.Bytes.{trim_end, trim_start}
use Rattle.sip_uri.specs.Host.{host_len}
use Rattle.sip_via.specs.ViaParts.{Parts, port_and_params}

-- by what stands behind these
abbrev pub sent_parts : List ℕ → List ℕ → List ℕ → List ℕ → Parts
sent_parts protocol version transport text =
    let sent = trim_start text in
    let tail = port_and_params (drop (host_len false sent) sent) in
    record { protocol = protocol; version = version; transport = transport; host = trim_end (take (host_len false sent) sent); port = tail.0; params = tail.1 }

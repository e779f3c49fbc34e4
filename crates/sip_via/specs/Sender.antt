-- Who sent a message, by one of its Via values (RFC 3261 sections 17.2.3 and 18.2.2).
use Rattle.std.specs.Prelude.{ℕ, List, Option, Some, None, Result, Ok, Err}
use Rattle.std.specs.Option.{option_copied}
use Rattle.sip_via.specs.declared.own.ViaFault.{ViaFault}
use Rattle.sip_via.specs.declared.sender.Sender.{Sender}
use Rattle.sip_via.specs.Received.{port_or_default}
use Rattle.sip_via.specs.ViaParts.{ViaText, branch_of, port_if_any}

pub record SenderText : Type 0 where
  -- as written
  pub host : List ℕ
  pub port : ℕ
  pub branch : Option (List ℕ)

-- the port of the sender, 5060 where none is named
abbrev pub sender_port : ViaText → ℕ
sender_port via = port_or_default (port_if_any via.port)

abbrev pub sender : ViaText → SenderText
sender via = record { host = via.host; port = sender_port via; branch = branch_of via }

-- a text that is no Via value names no sender
abbrev pub sender_if_read : Result ViaText ViaFault → Option SenderText
sender_if_read (Ok via) = Some (sender via)
sender_if_read (Err fault) = None

-- a sender in memory
abbrev pub seen_sender : Sender → SenderText
seen_sender s = record { host = s.host.now; port = s.port; branch = option_copied s.branch }

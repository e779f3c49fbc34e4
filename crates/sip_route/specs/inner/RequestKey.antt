-- Which requests belong to one server transaction (RFC 3261 section 17.2.3): those of one sender and one
-- branch. An ACK and a CANCEL have the key of the request that they are for, so the method is not in it.
-- Here: what no public contract reaches.
use Rattle.std.specs.Prelude.{◌≡◌, ℕ, Bool, false, List, Option, Some, None}
use Rattle.std.specs.Str.{bytes_eq}
use Rattle.sip_text.specs.Text.{MessageText}
use Rattle.sip_via.specs.Sender.{sender_port}
use Rattle.sip_via.specs.TopVia.{top_value}
use Rattle.sip_via.specs.ViaGrammar.{IsVia}
use Rattle.sip_via.specs.ViaParts.{ViaText, branch_of}
use Rattle.sip_route.specs.RequestKey.{via_key, request_key}

-- the top Via value, of the grammar, names this host as written, this port and this branch
pub record IsSentBy (m : MessageText) (host : List ℕ) (port : ℕ) (branch : List ℕ) : Type 0 where
  pub via : ViaText
  pub grammar : IsVia (top_value m) via
  pub key : request_key m ≡ via_key via
  pub names_host : via.host ≡ host
  pub names_port : sender_port via ≡ port
  pub names_branch : branch_of via ≡ Some branch

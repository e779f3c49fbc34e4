-- Which requests belong to one server transaction (RFC 3261 section 17.2.3): those of one sender and one
-- branch. An ACK and a CANCEL have the key of the request that they are for, so the method is not in it.
use Rattle.std.specs.Prelude.{◌≡◌, ℕ, List, ◌∷◌, ◌++◌, Option, Some, None, Result, Ok, Err}
use Rattle.std.specs.Fmt.{decimal}
use Rattle.std.specs.Str.{str_to_ascii_lowercase}
use Rattle.sip_text.specs.Text.{MessageText}
use Rattle.sip_via.specs.declared.own.ViaFault.{ViaFault}
use Rattle.sip_via.specs.Sender.{SenderText, sender_port}
use Rattle.sip_via.specs.TopVia.{top_value}
use Rattle.sip_via.specs.ViaParts.{ViaText, branch_of, read_via}

-- the host in lower case, `:`, the port, a space, the branch
abbrev pub key_text : List ℕ → ℕ → List ℕ → List ℕ
key_text host port branch = str_to_ascii_lowercase host ++ (58 ∷ (decimal port ++ (32 ∷ branch)))

abbrev pub key_with : ViaText → Option (List ℕ) → Option (List ℕ)
key_with via None = None
key_with via (Some branch) = Some (key_text via.host (sender_port via) branch)

-- a Via value without a branch gives none
abbrev pub via_key : ViaText → Option (List ℕ)
via_key via = key_with via (branch_of via)

abbrev pub key_if_read : Result ViaText ViaFault → Option (List ℕ)
key_if_read (Ok via) = via_key via
key_if_read (Err fault) = None

-- the key of a request: that of its top Via value, where this can be read and has a branch
abbrev pub request_key : MessageText → Option (List ℕ)
request_key m = key_if_read (read_via (top_value m))

-- the same by what the value says of its sender
abbrev pub sender_key_with : SenderText → Option (List ℕ) → Option (List ℕ)
sender_key_with s None = None
sender_key_with s (Some branch) = Some (key_text s.host s.port branch)

abbrev pub sender_key : SenderText → Option (List ℕ)
sender_key s = sender_key_with s s.branch

-- both requests have a key, and it is the same
abbrev pub HaveSameKey : MessageText → MessageText → Type 0
HaveSameKey m n = (key : List ℕ) × (request_key m ≡ Some key) × (request_key n ≡ Some key)

-- the same host in any case, the same port and the same branch
pub record IsSameSender (a b : ViaText) : Type 0 where
  pub host : str_to_ascii_lowercase a.host ≡ str_to_ascii_lowercase b.host
  pub port : sender_port a ≡ sender_port b
  pub branch : branch_of a ≡ branch_of b

-- The proxy's own Via value (RFC 3261 sections 16.6 step 8 and 20.42).
use Rattle.std.specs.Prelude.{ℕ, ◌<◌, ◌^◌, List, ◌∷◌, ◌++◌, codes}
use Rattle.std.specs.Fmt.{decimal}
use Rattle.sip_uri.specs.declared.hop.Transport.{Transport}
use Rattle.sip_uri.specs.declared.hop.Transport.TheVariants.{Udp, Tcp, Back}
use Rattle.sip_via.specs.declared.own.Own.{Own}
use Rattle.sip_via.specs.Address.{IsAddress, address_text}
use Rattle.sip_branch.specs.declared.branch.BranchName.{BranchName}
use Rattle.sip_branch.specs.BranchText.{branch_text}

-- an address and a port of numbers that 64 bits hold
pub record IsOwn (own : Own) : Type 0 where
  pub address : IsAddress own.addr
  pub port : own.port < 2 ^ 64

-- the same address and port over another transport
abbrev pub over : Own → Transport → Own
over own transport = record { addr = own.addr; port = own.port; transport = transport }

-- the transport as a Via value names it
abbrev pub word_of : Transport → List ℕ
word_of Udp = codes "UDP"
word_of Tcp = codes "TCP"
word_of (Back sent_by) = codes "TCP"

abbrev pub own_via : Own → BranchName → List ℕ
own_via own branch = codes "SIP/2.0/" ++ (word_of own.transport ++ (32 ∷ (address_text own.addr ++ (58 ∷ (decimal own.port ++ (codes ";branch=" ++ branch_text branch))))))

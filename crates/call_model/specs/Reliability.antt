-- Which transports are reliable: no transaction sends again what it sent over one of them (RFC 3261 sections 17.1.1.2, 17.1.2.2
-- and 17.2).
use Rattle.sip_txn.specs.declared.timers.Reliability.{Reliability}
use Rattle.sip_txn.specs.declared.timers.Reliability.TheVariants.{Unreliable, Reliable}
use Rattle.sip_uri.specs.declared.hop.Transport.{Transport}
use Rattle.sip_uri.specs.declared.hop.Transport.TheVariants.{Udp, Tcp, Back}

abbrev pub reliability_of : Transport → Reliability
reliability_of Udp = Unreliable
reliability_of Tcp = Reliable
reliability_of (Back sent_by) = Reliable
